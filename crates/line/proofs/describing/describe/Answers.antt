-- `line::describing::describe` meets its contract. Assumes nothing.
use Rattle.report.proofs.Faults.{accepted_readable}
use Rattle.line.proofs.Described.{start_room, report_room, feed_room, described}
use Rattle.line.proofs.describing.describe.Goals as goal

pub report_length-size-requires : goal.report_length-size-requires
report_length-size-requires c = search accepted_readable

pub put_describing_start-start-requires : goal.put_describing_start-start-requires
put_describing_start-start-requires c = start_room c.args.table.now c.args.out.now c.args.client c.requires c.report_length-size.result c.report_length-size.ensures

pub put_report-end-requires : goal.put_report-end-requires
put_report-end-requires c = report_room c.args.table.now c.args.out.now c.args.client c.requires c.report_length-size.result c.report_length-size.ensures _ _ c.put_describing_start-start.ensures

pub put_byte-requires : goal.put_byte-requires
put_byte-requires c = feed_room c.args.table.now c.args.out.now c.args.client c.requires c.report_length-size.result c.report_length-size.ensures _ _ c.put_describing_start-start.ensures _ _ c.put_report-end.ensures

pub returns : goal.returns
returns c = described c.args.table.now c.args.out.now c.args.client c.requires c.report_length-size.result c.report_length-size.ensures _ _ c.put_describing_start-start.ensures _ _ c.put_report-end.ensures _ _ c.put_byte.ensures
