-- `message::say::put_fault_front` meets its contract. Assumes nothing.
use Rattle.ascii.specs.Text.{bytes}
use Rattle.message.specs.Error.{fault_name}
use Rattle.message.specs.Clauses.Said.{fault_front}
use Rattle.message.proofs.say.put_fault_front.Goals as goal

pub put-requires : goal.put-requires
unfolding fault_front fault_name bytes
put-requires c = rw c.in-HardwareError.is at c.requires

pub put-requires-in-CommunicationFailed : goal.put-requires-in-CommunicationFailed
unfolding fault_front fault_name bytes
put-requires-in-CommunicationFailed c = rw c.in-CommunicationFailed.is at c.requires

pub put-requires-in-ReadFailed : goal.put-requires-in-ReadFailed
unfolding fault_front fault_name bytes
put-requires-in-ReadFailed c = rw c.in-ReadFailed.is at c.requires

pub put-requires-in-OutOfRange : goal.put-requires-in-OutOfRange
unfolding fault_front fault_name bytes
put-requires-in-OutOfRange c = rw c.in-OutOfRange.is at c.requires

pub returns-in-HardwareError : goal.returns-in-HardwareError
unfolding fault_front fault_name bytes
returns-in-HardwareError c = rw c.in-HardwareError.is c.put.ensures

pub returns-in-CommunicationFailed : goal.returns-in-CommunicationFailed
unfolding fault_front fault_name bytes
returns-in-CommunicationFailed c = rw c.in-CommunicationFailed.is c.put-in-CommunicationFailed.ensures

pub returns-in-ReadFailed : goal.returns-in-ReadFailed
unfolding fault_front fault_name bytes
returns-in-ReadFailed c = rw c.in-ReadFailed.is c.put-in-ReadFailed.ensures

pub returns-in-OutOfRange : goal.returns-in-OutOfRange
unfolding fault_front fault_name bytes
returns-in-OutOfRange c = rw c.in-OutOfRange.is c.put-in-OutOfRange.ensures
