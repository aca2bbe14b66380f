-- `message::say::put_error_report` meets its contract. Assumes nothing.
use Rattle.message.proofs.Said.{class_room, class_put, denied_room, denied_put}
use Rattle.message.proofs.say.put_error_report.Goals as goal

pub put_class_report-requires : goal.put_class_report-requires
put_class_report-requires c = search class_room

pub put_fault_report-requires : goal.put_fault_report-requires
put_fault_report-requires c = search denied_room

pub returns-in-Class : goal.returns-in-Class
returns-in-Class c = search class_put

pub returns-in-Fault : goal.returns-in-Fault
returns-in-Fault c = search denied_put
