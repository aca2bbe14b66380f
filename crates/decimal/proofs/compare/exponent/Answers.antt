-- `decimal::compare::exponent` meets its contract: it is what stands behind an 'e'. Assumes nothing.
use Rattle.decimal.specs.Decimal.{exponent}
use Rattle.decimal.proofs.compare.exponent.Goals as goal

pub returns : goal.returns
unfolding exponent
returns c = c.behind.ensures
