-- `message::line::content_end` meets its contract. Assumes nothing.
use Rattle.message.proofs.Content.{content_is, content_none}
use Rattle.message.proofs.line.content_end.Goals as goal

pub returns-then-all_printable : goal.returns-then-all_printable
returns-then-all_printable c = search content_is

pub returns-else-all_printable : goal.returns-else-all_printable
returns-else-all_printable c = search content_none
