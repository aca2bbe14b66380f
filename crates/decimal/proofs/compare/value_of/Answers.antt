-- `decimal::compare::value_of` meets its contract. Assumes nothing.
use mathlib.Core.Path.{sym, ◌∙◌}
use Rattle.decimal.proofs.compare.value_of.Goals as goal

pub token-requires : goal.token-requires
token-requires c = sym c.is_within_limits.ensures ∙ c.if-is_within_limits.true

pub returns-then-is_within_limits : goal.returns-then-is_within_limits
returns-then-is_within_limits c = (sym c.is_within_limits.ensures ∙ c.if-is_within_limits.true, c.token.ensures)

pub returns : goal.returns
returns c = sym c.is_within_limits.ensures ∙ c.if-is_within_limits.false
