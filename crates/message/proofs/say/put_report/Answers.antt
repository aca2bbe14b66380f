-- `message::say::put_report` meets its contract. Assumes nothing.
use Rattle.ascii.specs.Text.{bytes}
use Rattle.message.proofs.Said.{report_1, report_2, report_3, report_all}
use Rattle.message.proofs.say.put_report.Goals as goal

pub put3-space-requires : goal.put3-space-requires
unfolding bytes
put3-space-requires c = search report_1

pub put_byte-data-requires : goal.put_byte-data-requires
unfolding bytes
put_byte-data-requires c = search report_2

pub put_held_report-requires : goal.put_held_report-requires
unfolding bytes
put_held_report-requires c = search report_3

pub returns : goal.returns
unfolding bytes
returns c = search report_all
