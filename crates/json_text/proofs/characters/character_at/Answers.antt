-- `json_text::characters::character_at` meets its contract. Assumes nothing.
use Rattle.json_text.proofs.Escapes.{character_escape, character_plain}
use Rattle.json_text.proofs.characters.character_at.Goals as goal

pub returns-in-92 : goal.returns-in-92
returns-in-92 c = search character_escape

pub returns-in_default : goal.returns-in_default
returns-in_default c = rw c.from.ensures (search character_plain)
