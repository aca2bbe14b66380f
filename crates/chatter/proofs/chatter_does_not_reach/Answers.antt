-- The promise of `chatter_does_not_reach`. Assumes nothing.
use mathlib.Core.Path.{refl}
use Rattle.chatter.proofs.Chatter as theorem
use Rattle.chatter.proofs.chatter_does_not_reach.Goals as goal

pub returns : goal.returns
returns c = (refl, theorem.chatter_does_not_reach)
