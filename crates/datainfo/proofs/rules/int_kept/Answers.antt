-- `datainfo::rules::int_kept` meets its contract. Assumes nothing.
use native.Mathlib.Omega.{arith}
use Rattle.datainfo.proofs.Own.{signed_within, int_short, int_cut, int_read}
use Rattle.datainfo.proofs.rules.int_kept.Goals as goal

pub returns-in_default : goal.returns-in_default
returns-in_default c = search int_short

pub signed-requires-2 : goal.signed-requires-2
signed-requires-2 c = (search signed_within, (omega arith, omega arith))

pub returns-in_default-signed : goal.returns-in_default-signed
returns-in_default-signed c = search int_cut

pub returns : goal.returns
returns c = search int_read
