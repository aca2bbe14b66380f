-- `message::say::class_report_length` meets its contract. Assumes nothing.
use Rattle.ascii.specs.Text.{bytes}
use Rattle.message.specs.Error.{class_name, class_text}
use Rattle.message.specs.Reply.{class_report}
use Rattle.message.proofs.say.class_report_length.Goals as goal

pub returns-in-ProtocolError : goal.returns-in-ProtocolError
unfolding class_report class_name class_text bytes
returns-in-ProtocolError c = rw c.in-ProtocolError.is

pub returns-in-NoSuchModule : goal.returns-in-NoSuchModule
unfolding class_report class_name class_text bytes
returns-in-NoSuchModule c = rw c.in-NoSuchModule.is

pub returns-in-NoSuchParameter : goal.returns-in-NoSuchParameter
unfolding class_report class_name class_text bytes
returns-in-NoSuchParameter c = rw c.in-NoSuchParameter.is

pub returns-in-NoSuchCommand : goal.returns-in-NoSuchCommand
unfolding class_report class_name class_text bytes
returns-in-NoSuchCommand c = rw c.in-NoSuchCommand.is

pub returns-in-ReadOnly : goal.returns-in-ReadOnly
unfolding class_report class_name class_text bytes
returns-in-ReadOnly c = rw c.in-ReadOnly.is

pub returns-in-BadJSON : goal.returns-in-BadJSON
unfolding class_report class_name class_text bytes
returns-in-BadJSON c = rw c.in-BadJSON.is

pub returns-in-WrongType : goal.returns-in-WrongType
unfolding class_report class_name class_text bytes
returns-in-WrongType c = rw c.in-WrongType.is

pub returns-in-RangeError : goal.returns-in-RangeError
unfolding class_report class_name class_text bytes
returns-in-RangeError c = rw c.in-RangeError.is
