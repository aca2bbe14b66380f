-- The promise of `filled_indexes_are_good`. Assumes nothing.
use mathlib.Core.Path.{refl}
use Rattle.index.proofs.Fills as theorem
use Rattle.index.proofs.filled_indexes_are_good.Goals as goal

pub returns : goal.returns
returns c = (refl, theorem.filled_good)
