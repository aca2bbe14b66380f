-- `json_text::read::is_escape` meets its contract. Assumes nothing.
use Rattle.json_text.proofs.Strings.{escape_yes, escape_no}
use Rattle.json_text.proofs.read.is_escape.Goals as goal

pub returns-in-34 : goal.returns-in-34
returns-in-34 c = escape_yes _ c.in-34.is

pub returns-in_default : goal.returns-in_default
returns-in_default c = let h = c.in_default in search escape_no
