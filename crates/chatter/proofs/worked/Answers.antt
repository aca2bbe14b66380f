-- The promise of `worked`. Assumes nothing.
use mathlib.Core.Path.{refl}
use Rattle.chatter.proofs.Items as theorem
use Rattle.chatter.proofs.worked.Goals as goal

pub returns : goal.returns
returns c = (refl, theorem.worked)
