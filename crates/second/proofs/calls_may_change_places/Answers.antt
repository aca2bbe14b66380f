-- The promise of `calls_may_change_places`. Assumes nothing.
use mathlib.Core.Path.{refl}
use Rattle.second.proofs.Moves as theorem
use Rattle.second.proofs.calls_may_change_places.Goals as goal

pub returns : goal.returns
returns c = (refl, theorem.calls_may_change_places)
