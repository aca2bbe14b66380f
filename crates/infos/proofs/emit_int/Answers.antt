-- `infos::emit_int` meets its contract. Assumes nothing.
use Rattle.infos.proofs.Infos.{int_none, int_one, int_told}
use Rattle.datainfo.proofs.Own.{signed_within}
use Rattle.ascii.specs.Text.{bytes}
use native.Mathlib.Omega.{arith}
use Rattle.infos.proofs.emit_int.Goals as goal

pub returns-in_default : goal.returns-in_default
returns-in_default c = search int_none

pub signed-requires-2 : goal.signed-requires-2
signed-requires-2 c = (search signed_within, (omega arith, omega arith))

pub returns-in_default-signed : goal.returns-in_default-signed
returns-in_default-signed c = search int_one

pub returns : goal.returns
unfolding bytes
returns c = search int_told
