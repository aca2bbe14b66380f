-- `json_text::read::escape_end` meets its contract. Assumes nothing.
use Rattle.json_text.proofs.Strings.{escape_u, escape_one, escape_bad}
use Rattle.json_text.proofs.read.escape_end.Goals as goal

pub returns-in-117 : goal.returns-in-117
returns-in-117 c = search escape_u

pub returns-in_default : goal.returns-in_default
returns-in_default c = search escape_one

pub returns-in_default-2 : goal.returns-in_default-2
returns-in_default-2 c = search escape_bad
