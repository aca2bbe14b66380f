-- `message::line::scoped_request` meets its contract. Assumes nothing.
use Rattle.message.proofs.Requests.{asks_all, bad_module, asks_module}
use Rattle.message.proofs.line.scoped_request.Goals as goal

pub returns-then-specifier : goal.returns-then-specifier
returns-then-specifier c = search asks_all

pub returns-then-is_name_part : goal.returns-then-is_name_part
returns-then-is_name_part c = search asks_module

pub returns-else-is_name_part : goal.returns-else-is_name_part
returns-else-is_name_part c = search bad_module
