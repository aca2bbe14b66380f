-- `rule::busy_before_changed` promises the theorem of `Busy`. Assumes nothing.
use mathlib.Core.Path.{refl}
use Rattle.rule.proofs.Busy.{busy_before_changed}
use Rattle.rule.proofs.busy_before_changed.Goals as goal

pub returns : goal.returns
returns c = (refl, busy_before_changed)
