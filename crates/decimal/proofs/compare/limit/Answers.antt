-- `decimal::compare::limit` meets its contract: it is the sign and the size of m, with the place of p. Assumes nothing.
use Rattle.decimal.proofs.Limits.{limit_is}
use Rattle.decimal.proofs.compare.limit.Goals as goal

pub returns : goal.returns
returns c = limit_is c.args.m c.args.p c.unsigned_abs-size.result c.place.result c.ranges.m c.ranges.p c.unsigned_abs-size.ensures.value c.place.ensures
