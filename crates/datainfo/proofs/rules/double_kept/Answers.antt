-- `datainfo::rules::double_kept` meets its contract. Assumes nothing.
use Rattle.datainfo.proofs.Own.{limit_within, double_short, double_cut, double_low, double_high, double_read}
use Rattle.datainfo.proofs.rules.double_kept.Goals as goal

pub returns-in_default : goal.returns-in_default
returns-in_default c = search double_short

pub limit_at-requires-2 : goal.limit_at-requires-2
limit_at-requires-2 c = search limit_within

pub returns-in_default-limit_at : goal.returns-in_default-limit_at
returns-in_default-limit_at c = search double_cut

pub returns-then-not-power_good : goal.returns-then-not-power_good
returns-then-not-power_good c = search double_low

pub returns-then-not-power_good-2 : goal.returns-then-not-power_good-2
returns-then-not-power_good-2 c = search double_high

pub returns : goal.returns
returns c = search double_read
