-- `message::say::held_report_length` meets its contract. Assumes nothing.
use Rattle.message.proofs.Said.{works_length, fails_length}
use Rattle.message.proofs.say.held_report_length.Goals as goal

pub returns-in-Works : goal.returns-in-Works
returns-in-Works c = search works_length

pub returns-in-Fails : goal.returns-in-Fails
returns-in-Fails c = search fails_length
