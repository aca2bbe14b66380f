-- `datainfo::rules::scaled_kept` meets its contract. Assumes nothing.
use mathlib.Core.Path.{◌≡◌, refl}
use mathlib.Core.Bool.{true, false, not}
use Rattle.datainfo.proofs.Own.{limit_within, scaled_short, scaled_bad, scaled_good}
use Rattle.datainfo.proofs.rules.scaled_kept.Goals as goal

pub returns-in_default : goal.returns-in_default
returns-in_default c = search scaled_short

pub returns-else-scale_good : goal.returns-else-scale_good
returns-else-scale_good c = let n : not c.scale_good.result ≡ true = rw c.if-scale_good.false refl in rw c.if-scale_good.false (search scaled_bad)

pub int_kept-requires : goal.int_kept-requires
int_kept-requires c = search limit_within

pub returns-then-scale_good : goal.returns-then-scale_good
returns-then-scale_good c = let n : not c.scale_good.result ≡ false = rw c.if-scale_good.true refl in search scaled_good
