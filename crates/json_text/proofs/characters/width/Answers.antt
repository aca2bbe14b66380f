-- `json_text::characters::width` meets its contract. Assumes nothing.
use native.Mathlib.Omega.{arith}
use Rattle.json_text.proofs.Escapes.{width_one, width_six, width_two}
use Rattle.json_text.proofs.characters.width.Goals as goal

pub returns-then-byte-ne92 : goal.returns-then-byte-ne92
returns-then-byte-ne92 c = (search width_one, omega arith)

pub returns-then-byte-eq117 : goal.returns-then-byte-eq117
returns-then-byte-eq117 c = (search width_six, omega arith)

pub returns-else-byte-eq117 : goal.returns-else-byte-eq117
returns-else-byte-eq117 c = (search width_two, omega arith)
