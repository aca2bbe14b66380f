-- The promise of `answers_stand`. Assumes nothing.
use mathlib.Core.Path.{refl}
use Rattle.index.proofs.Accepted as theorem
use Rattle.index.proofs.answers_stand.Goals as goal

pub returns : goal.returns
returns c = (refl, theorem.answers_stand)
