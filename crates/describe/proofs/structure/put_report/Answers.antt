-- `describe::structure::put_report` meets its contract. Assumes nothing.
use Rattle.describe.proofs.Reported.{report_put}
use Rattle.describe.proofs.structure.put_report.Goals as goal

pub returns : goal.returns
returns c = search report_put
