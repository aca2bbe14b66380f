-- `describe::structure::report_length` meets its contract. Assumes nothing.
use Rattle.describe.proofs.Reported.{report_measured}
use Rattle.describe.proofs.structure.report_length.Goals as goal

pub returns : goal.returns
returns c = search report_measured
