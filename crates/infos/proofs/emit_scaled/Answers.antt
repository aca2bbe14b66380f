-- `infos::emit_scaled` meets its contract. Assumes nothing.
use Rattle.infos.proofs.Infos.{scaled_none, scaled_one, scaled_two, scaled_told}
use Rattle.datainfo.proofs.Own.{limit_within, signed_within}
use native.Mathlib.Omega.{arith}
use Rattle.infos.proofs.emit_scaled.Goals as goal

pub returns-in_default : goal.returns-in_default
returns-in_default c = search scaled_none

pub signed-requires : goal.signed-requires
signed-requires c = (search limit_within, (omega arith, omega arith))

pub returns-in_default-signed : goal.returns-in_default-signed
returns-in_default-signed c = search scaled_one

pub signed-requires-2 : goal.signed-requires-2
signed-requires-2 c = (search signed_within, (omega arith, omega arith))

pub returns-in_default-signed-2 : goal.returns-in_default-signed-2
returns-in_default-signed-2 c = search scaled_two

pub returns : goal.returns
returns c = search scaled_told
