-- `datainfo::rules::scale_good` meets its contract. Assumes nothing.
use mathlib.Core.Path.{◌≡◌, refl}
use mathlib.Core.Bool.{true, false, not}
use Rattle.datainfo.proofs.Own.{scale_far, scale_sign}
use Rattle.datainfo.proofs.rules.scale_good.Goals as goal

pub returns-else-power_good : goal.returns-else-power_good
returns-else-power_good c = let n : not c.power_good.result ≡ true = rw c.if-power_good.false refl in rw c.if-power_good.false (search scale_far)

pub returns-then-power_good : goal.returns-then-power_good
returns-then-power_good c = let n : not c.power_good.result ≡ false = rw c.if-power_good.true refl in search scale_sign
