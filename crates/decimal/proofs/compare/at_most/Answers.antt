-- `decimal::compare::at_most` meets its contract: both limits are the decimals that they say, and these are compared. Assumes nothing.
use Rattle.decimal.proofs.Integers.{compared}
use Rattle.decimal.proofs.Limits.{limit_same}
use Rattle.decimal.proofs.compare.at_most.Goals as goal

pub returns : goal.returns
returns c = compared (limit_same _ c.args.a c.args.a_power c.ranges.a c.ranges.a_power c.limit.ensures)
    (limit_same _ c.args.b c.args.b_power c.ranges.b c.ranges.b_power c.limit-2.ensures)
    c.exact_at_most.ensures
