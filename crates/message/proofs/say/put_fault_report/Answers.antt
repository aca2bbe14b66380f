-- `message::say::put_fault_report` meets its contract. Assumes nothing.
use Rattle.ascii.specs.Text.{bytes}
use Rattle.message.proofs.Said.{fault_1, fault_2, fault_3, fault_all}
use Rattle.message.proofs.say.put_fault_report.Goals as goal

pub put_fault_front-stamp-requires : goal.put_fault_front-stamp-requires
unfolding bytes
put_fault_front-stamp-requires c = search fault_1

pub put_seconds-close-requires : goal.put_seconds-close-requires
unfolding bytes
put_seconds-close-requires c = search fault_2

pub put-requires : goal.put-requires
unfolding bytes
put-requires c = search fault_3

pub returns : goal.returns
unfolding bytes
returns c = search fault_all
