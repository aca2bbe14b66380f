-- `message::say::fault_front_length` meets its contract. Assumes nothing.
use Rattle.ascii.specs.Text.{bytes}
use Rattle.message.specs.Error.{fault_name}
use Rattle.message.specs.Clauses.Said.{fault_front}
use Rattle.message.proofs.say.fault_front_length.Goals as goal

pub returns-in-HardwareError : goal.returns-in-HardwareError
unfolding fault_front fault_name bytes
returns-in-HardwareError c = rw c.in-HardwareError.is

pub returns-in-CommunicationFailed : goal.returns-in-CommunicationFailed
unfolding fault_front fault_name bytes
returns-in-CommunicationFailed c = rw c.in-CommunicationFailed.is

pub returns-in-ReadFailed : goal.returns-in-ReadFailed
unfolding fault_front fault_name bytes
returns-in-ReadFailed c = rw c.in-ReadFailed.is

pub returns-in-OutOfRange : goal.returns-in-OutOfRange
unfolding fault_front fault_name bytes
returns-in-OutOfRange c = rw c.in-OutOfRange.is
