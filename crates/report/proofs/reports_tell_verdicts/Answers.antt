-- `report::reports_tell_verdicts` promises the theorem of `Alike`. Assumes nothing.
use mathlib.Core.Path.{refl}
use Rattle.report.proofs.Alike.{reports_tell_verdicts}
use Rattle.report.proofs.reports_tell_verdicts.Goals as goal

pub returns : goal.returns
returns c = (refl, reports_tell_verdicts)
