-- `message::say::error_report_length` meets its contract. Assumes nothing.
use Rattle.message.proofs.Said.{class_length, class_least, denied_length}
use borrow.Author.Rules.{rules}
use Rattle.message.proofs.say.error_report_length.Goals as goal

pub returns-in-Class : goal.returns-in-Class
returns-in-Class c = (search class_length, search class_least)

pub returns-in-Fault : goal.returns-in-Fault
returns-in-Fault c = (search denied_length, search rules)
