-- `infos::emit_blob` meets its contract. Assumes nothing.
use Rattle.infos.proofs.Infos.{blob_none, blob_one, blob_told}
use Rattle.datainfo.proofs.Own.{unsigned_within}
use Rattle.ascii.specs.Text.{bytes}
use native.Mathlib.Omega.{arith}
use Rattle.infos.proofs.emit_blob.Goals as goal

pub returns-in_default : goal.returns-in_default
returns-in_default c = search blob_none

pub unsigned-requires-2 : goal.unsigned-requires-2
unsigned-requires-2 c = (search unsigned_within, omega arith)

pub returns-in_default-unsigned : goal.returns-in_default-unsigned
returns-in_default-unsigned c = search blob_one

pub returns : goal.returns
unfolding bytes
returns c = search blob_told
