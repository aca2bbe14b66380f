-- The promise of `steps_are_few`. Assumes nothing.
use mathlib.Core.Path.{refl}
use Rattle.index.proofs.Accepted as theorem
use Rattle.index.proofs.steps_are_few.Goals as goal

pub returns : goal.returns
returns c = (refl, theorem.steps_are_few)
