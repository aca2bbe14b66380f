-- `message::say::put_held_report` meets its contract. Assumes nothing.
use Rattle.message.proofs.Said.{works_room, works_put, fails_room, fails_put}
use Rattle.message.proofs.say.put_held_report.Goals as goal

pub put_data_report-requires : goal.put_data_report-requires
put_data_report-requires c = search works_room

pub put_fault_report-requires : goal.put_fault_report-requires
put_fault_report-requires c = search fails_room

pub returns-in-Works : goal.returns-in-Works
returns-in-Works c = search works_put

pub returns-in-Fails : goal.returns-in-Fails
returns-in-Fails c = search fails_put
