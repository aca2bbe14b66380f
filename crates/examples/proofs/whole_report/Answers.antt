-- `examples::whole_report` promises the theorem of `Examples`. Assumes nothing.
use mathlib.Core.Path.{refl}
use Rattle.examples.proofs.Examples.{whole_report}
use Rattle.examples.proofs.whole_report.Goals as goal

pub returns : goal.returns
returns c = (refl, whole_report)
