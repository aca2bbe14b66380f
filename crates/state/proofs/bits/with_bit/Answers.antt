-- `state::bits::with_bit` meets its contract. Assumes nothing.
use Rattle.state.proofs.Masks.{set_bit}
use Rattle.state.proofs.bits.with_bit.Goals as goal

pub returns : goal.returns
returns c = set_bit c.args.mask c.args.i c.requires
