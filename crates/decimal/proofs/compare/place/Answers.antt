-- `decimal::compare::place` meets its contract: 130 more than an i8 is no negative number. Assumes nothing.
use Rattle.decimal.proofs.Limits.{cast_fits, wide_fits, sum_fits, place_cast, place_right}
use Rattle.decimal.proofs.compare.place.Goals as goal

pub overflow_cast-result : goal.overflow_cast-result
overflow_cast-result c = wide_fits c.args.p c.ranges.p

pub overflow_add-result : goal.overflow_add-result
overflow_add-result c = sum_fits c.args.p c.ranges.p

pub overflow_cast-result-2 : goal.overflow_cast-result-2
overflow_cast-result-2 c = cast_fits (place_cast c.args.p c.ranges.p)

pub returns : goal.returns
returns c = place_right c.args.p c.ranges.p
