-- `datainfo::rules::number_at` meets its contract. Assumes nothing.
use native.Mathlib.Omega.{arith}
use Rattle.ascii.proofs.Bytes.{ended_within}
use Rattle.datainfo.proofs.Keys.{number_nameless, number_short, number_read}
use Rattle.datainfo.proofs.rules.number_at.Goals as goal

pub returns-in_default : goal.returns-in_default
returns-in_default c = search number_nameless

pub signed-requires : goal.signed-requires
signed-requires c = (search ended_within, (omega arith, omega arith))

pub returns-in_default-signed : goal.returns-in_default-signed
returns-in_default-signed c = search number_short

pub returns : goal.returns
returns c = search number_read
