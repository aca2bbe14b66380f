-- `message::say::put_class_report` meets its contract. Assumes nothing.
use Rattle.ascii.specs.Text.{bytes}
use Rattle.message.specs.Error.{class_name, class_text}
use Rattle.message.specs.Reply.{class_report}
use Rattle.message.proofs.say.put_class_report.Goals as goal

pub put-requires : goal.put-requires
unfolding class_report class_name class_text bytes
put-requires c = rw c.in-ProtocolError.is at c.requires

pub put-requires-in-NoSuchModule : goal.put-requires-in-NoSuchModule
unfolding class_report class_name class_text bytes
put-requires-in-NoSuchModule c = rw c.in-NoSuchModule.is at c.requires

pub put-requires-in-NoSuchParameter : goal.put-requires-in-NoSuchParameter
unfolding class_report class_name class_text bytes
put-requires-in-NoSuchParameter c = rw c.in-NoSuchParameter.is at c.requires

pub put-requires-in-NoSuchCommand : goal.put-requires-in-NoSuchCommand
unfolding class_report class_name class_text bytes
put-requires-in-NoSuchCommand c = rw c.in-NoSuchCommand.is at c.requires

pub put-requires-in-ReadOnly : goal.put-requires-in-ReadOnly
unfolding class_report class_name class_text bytes
put-requires-in-ReadOnly c = rw c.in-ReadOnly.is at c.requires

pub put-requires-in-BadJSON : goal.put-requires-in-BadJSON
unfolding class_report class_name class_text bytes
put-requires-in-BadJSON c = rw c.in-BadJSON.is at c.requires

pub put-requires-in-WrongType : goal.put-requires-in-WrongType
unfolding class_report class_name class_text bytes
put-requires-in-WrongType c = rw c.in-WrongType.is at c.requires

pub put-requires-in-RangeError : goal.put-requires-in-RangeError
unfolding class_report class_name class_text bytes
put-requires-in-RangeError c = rw c.in-RangeError.is at c.requires

pub returns-in-ProtocolError : goal.returns-in-ProtocolError
unfolding class_report class_name class_text bytes
returns-in-ProtocolError c = rw c.in-ProtocolError.is c.put.ensures

pub returns-in-NoSuchModule : goal.returns-in-NoSuchModule
unfolding class_report class_name class_text bytes
returns-in-NoSuchModule c = rw c.in-NoSuchModule.is c.put-in-NoSuchModule.ensures

pub returns-in-NoSuchParameter : goal.returns-in-NoSuchParameter
unfolding class_report class_name class_text bytes
returns-in-NoSuchParameter c = rw c.in-NoSuchParameter.is c.put-in-NoSuchParameter.ensures

pub returns-in-NoSuchCommand : goal.returns-in-NoSuchCommand
unfolding class_report class_name class_text bytes
returns-in-NoSuchCommand c = rw c.in-NoSuchCommand.is c.put-in-NoSuchCommand.ensures

pub returns-in-ReadOnly : goal.returns-in-ReadOnly
unfolding class_report class_name class_text bytes
returns-in-ReadOnly c = rw c.in-ReadOnly.is c.put-in-ReadOnly.ensures

pub returns-in-BadJSON : goal.returns-in-BadJSON
unfolding class_report class_name class_text bytes
returns-in-BadJSON c = rw c.in-BadJSON.is c.put-in-BadJSON.ensures

pub returns-in-WrongType : goal.returns-in-WrongType
unfolding class_report class_name class_text bytes
returns-in-WrongType c = rw c.in-WrongType.is c.put-in-WrongType.ensures

pub returns-in-RangeError : goal.returns-in-RangeError
unfolding class_report class_name class_text bytes
returns-in-RangeError c = rw c.in-RangeError.is c.put-in-RangeError.ensures
