-- `decimal::compare::is_between` meets its contract: the signed parameters are handed on as their bits, and are the same. Assumes nothing.
use mathlib.Core.Path.{◌∙◌}
use mathlib.Core.Bool.{◌&&◌}
use Rattle.decimal.specs.Decimal.{is_within_limits, between, exactly}
use Rattle.decimal.proofs.Limits.{limit_read}
use Rattle.decimal.proofs.Values.{roomy, lies}
use Rattle.decimal.proofs.compare.is_between.Goals as goal

pub lies_between-requires : goal.lies_between-requires
lies_between-requires c = search roomy

pub returns : goal.returns
returns c = c.lies_between.ensures
    ∙ lies c.args.t.now _ _ _ c.value_of.ensures
    ∙ (λ i. is_within_limits c.args.t.now
    && between (limit_read c.args.lo c.args.lo_power c.ranges.lo c.ranges.lo_power i)
    (limit_read c.args.hi c.args.hi_power c.ranges.hi c.ranges.hi_power i)
    (exactly c.args.t.now))
