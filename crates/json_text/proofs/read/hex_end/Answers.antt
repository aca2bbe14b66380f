-- `json_text::read::hex_end` meets its contract. Assumes nothing.
use Rattle.ascii.specs.Bytes.{is_in}
use Rattle.json_text.specs.Json.{is_hex}
use Rattle.json_text.proofs.Strings.{hex_yes, hex_no}
use Rattle.json_text.proofs.read.hex_end.Goals as goal

pub returns-then-is_ascii_hexdigit : goal.returns-then-is_ascii_hexdigit
unfolding is_hex is_in
returns-then-is_ascii_hexdigit c = hex_yes c.byte.ensures c.is_ascii_hexdigit.ensures.value c.if-is_ascii_hexdigit.true

pub returns-else-is_ascii_hexdigit : goal.returns-else-is_ascii_hexdigit
unfolding is_hex is_in
returns-else-is_ascii_hexdigit c = hex_no c.byte.ensures c.is_ascii_hexdigit.ensures.value c.if-is_ascii_hexdigit.false
