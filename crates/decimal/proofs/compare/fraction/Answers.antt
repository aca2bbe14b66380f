-- `decimal::compare::fraction` meets its contract: it is what stands behind the dot of the significand. Assumes nothing.
use Rattle.decimal.proofs.Values.{fraction_is}
use Rattle.decimal.proofs.compare.fraction.Goals as goal

pub returns : goal.returns
returns c = fraction_is _ _ _ c.behind.ensures c.significand.ensures
