-- The promise of `chatter_does_not_reach`. Assumes nothing.
use mathlib.Core.Path.{refl}
use Rattle.history.proofs.Chatter as theorem
use Rattle.history.proofs.chatter_does_not_reach.Goals as goal

pub returns : goal.returns
returns c = (refl, theorem.chatter_does_not_reach_the_code)
