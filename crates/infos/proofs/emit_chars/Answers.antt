-- `infos::emit_chars` meets its contract. Assumes nothing.
use Rattle.infos.proofs.Infos.{chars_none, chars_one, chars_told}
use Rattle.datainfo.proofs.Own.{unsigned_within}
use Rattle.ascii.specs.Text.{bytes}
use native.Mathlib.Omega.{arith}
use Rattle.infos.proofs.emit_chars.Goals as goal

pub returns-in_default : goal.returns-in_default
returns-in_default c = search chars_none

pub unsigned-requires-2 : goal.unsigned-requires-2
unsigned-requires-2 c = (search unsigned_within, omega arith)

pub returns-in_default-unsigned : goal.returns-in_default-unsigned
returns-in_default-unsigned c = search chars_one

pub returns : goal.returns
unfolding bytes
returns c = search chars_told
