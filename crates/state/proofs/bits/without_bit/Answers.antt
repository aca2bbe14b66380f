-- `state::bits::without_bit` meets its contract. Assumes nothing.
use Rattle.state.proofs.Masks.{clear_bit}
use mathlib.Core.Path.{sym, ◌∙◌}
use Rattle.state.proofs.bits.without_bit.Goals as goal

pub returns-then-has_bit : goal.returns-then-has_bit
returns-then-has_bit c = clear_bit c.args.mask c.args.i c.requires (sym c.has_bit.ensures ∙ c.if-has_bit.true)
