-- `state::bits::bit_count` meets its contract. Assumes nothing.
use native.Mathlib.Omega.{arith}
use Rattle.state.proofs.Ones.{ones_are}
use Rattle.state.proofs.bits.bit_count.Goals as goal

pub returns : goal.returns
returns c = ones_are _ (omega arith)
