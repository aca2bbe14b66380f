-- `state::bits::has_bit` meets its contract: the code is the definition. Assumes nothing.
use Rattle.state.specs.View.{bit}
use mathlib.Core.Path.{refl}
use Rattle.state.proofs.bits.has_bit.Goals as goal

pub returns : goal.returns
unfolding bit
returns c = refl
