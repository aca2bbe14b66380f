-- `datainfo::rules::keys_good` meets its contract. Assumes nothing.
use native.Mathlib.Omega.{arith}
use Rattle.datainfo.proofs.Keys.{positions_zero, keys_none, keys_noted}
use Rattle.datainfo.proofs.rules.keys_good.Goals as goal

pub returns-then-s-at : goal.returns-then-s-at
returns-then-s-at c = search keys_none

pub note_starts-n-requires : goal.note_starts-n-requires
note_starts-n-requires c = (
  omega arith,
  (omega (arith, c.shared_slice_known-2-1.given c.args.at), (omega arith, positions_zero c.args.s.now 255)),
)

pub returns : goal.returns
returns c = search keys_noted
