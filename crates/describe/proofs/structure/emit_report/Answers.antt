-- `describe::structure::emit_report` meets its contract. Assumes nothing.
use Rattle.describe.proofs.Reported.{report_none, report_told}
use Rattle.ascii.specs.Text.{bytes}
use Rattle.describe.proofs.structure.emit_report.Goals as goal

pub returns-in_default : goal.returns-in_default
returns-in_default c = search report_none

pub returns : goal.returns
unfolding bytes
returns c = search report_told
