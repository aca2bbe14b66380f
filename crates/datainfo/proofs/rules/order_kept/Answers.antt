-- `datainfo::rules::order_kept` meets its contract. Assumes nothing.
use native.Mathlib.Omega.{arith}
use Rattle.datainfo.proofs.Own.{unsigned_within, order_short, order_cut, order_read}
use Rattle.datainfo.proofs.rules.order_kept.Goals as goal

pub returns-in_default : goal.returns-in_default
returns-in_default c = search order_short

pub unsigned-requires-2 : goal.unsigned-requires-2
unsigned-requires-2 c = (search unsigned_within, omega arith)

pub returns-in_default-unsigned : goal.returns-in_default-unsigned
returns-in_default-unsigned c = search order_cut

pub returns : goal.returns
returns c = search order_read
