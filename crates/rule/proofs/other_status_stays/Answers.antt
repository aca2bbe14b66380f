-- `rule::other_status_stays` promises the theorem of `Busy`. Assumes nothing.
use mathlib.Core.Path.{refl}
use Rattle.rule.proofs.Busy.{other_status_stays}
use Rattle.rule.proofs.other_status_stays.Goals as goal

pub returns : goal.returns
returns c = (refl, other_status_stays)
