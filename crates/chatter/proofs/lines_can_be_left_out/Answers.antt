-- The promise of `lines_can_be_left_out`. Assumes nothing.
use mathlib.Core.Path.{refl}
use Rattle.chatter.proofs.Singles as theorem
use Rattle.chatter.proofs.lines_can_be_left_out.Goals as goal

pub returns : goal.returns
returns c = (refl, theorem.lines_can_be_left_out)
