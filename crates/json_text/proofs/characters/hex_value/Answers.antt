-- `json_text::characters::hex_value` meets its contract. Assumes nothing.
use Rattle.json_text.proofs.Escapes.{hex_value}
use Rattle.json_text.proofs.characters.hex_value.Goals as goal

pub returns : goal.returns
returns c = search hex_value
