use Rattle.tables.proofs.Reported.{report_room, report_begins, report_ends}
use Rattle.tables.proofs.report_in.Goals as goal

pub put_report-requires : goal.put_report-requires
put_report-requires c = search report_room

pub returns : goal.returns
returns c = (search report_begins, search report_ends)
