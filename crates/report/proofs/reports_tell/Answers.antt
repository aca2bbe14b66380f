-- `report::reports_tell` promises the theorem of `Told`. Assumes nothing.
use mathlib.Core.Path.{refl}
use Rattle.report.proofs.Told.{reports_tell}
use Rattle.report.proofs.reports_tell.Goals as goal

pub returns : goal.returns
returns c = (refl, reports_tell)
