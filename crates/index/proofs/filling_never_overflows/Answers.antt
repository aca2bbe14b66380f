-- The promise of `filling_never_overflows`. Assumes nothing.
use mathlib.Core.Path.{refl}
use Rattle.index.proofs.Fills as theorem
use Rattle.index.proofs.filling_never_overflows.Goals as goal

pub returns : goal.returns
returns c = (refl, theorem.filled_room)
