-- `examples::noted_report` promises the theorem of `Examples`. Assumes nothing.
use mathlib.Core.Path.{refl}
use Rattle.examples.proofs.Examples.{noted_report_lem}
use Rattle.examples.proofs.noted_report.Goals as goal

pub returns : goal.returns
returns c = (refl, noted_report_lem)
