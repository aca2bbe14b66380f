-- The promise of `unused_may_be_offered`. Assumes nothing.
use mathlib.Core.Path.{refl}
use Rattle.second.proofs.Moves as theorem
use Rattle.second.proofs.unused_may_be_offered.Goals as goal

pub returns : goal.returns
returns c = (refl, theorem.unused_may_be_offered)
