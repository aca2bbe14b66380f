-- `json_text::read::char_end` meets its contract. Assumes nothing.
use Rattle.json_text.proofs.Strings.{char_escape, char_plain, char_bad}
use Rattle.json_text.proofs.read.char_end.Goals as goal

pub returns-in-92 : goal.returns-in-92
returns-in-92 c = search char_escape

pub returns-in_default : goal.returns-in_default
returns-in_default c = search char_plain

pub returns-in_default-2 : goal.returns-in_default-2
returns-in_default-2 c = search char_bad
