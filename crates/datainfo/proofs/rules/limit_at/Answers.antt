-- `datainfo::rules::limit_at` meets its contract. Assumes nothing.
use Rattle.datainfo.proofs.Own.{signed_within, limit_short, limit_cut, limit_read}
use Rattle.datainfo.proofs.rules.limit_at.Goals as goal

pub returns-in_err-m : goal.returns-in_err-m
returns-in_err-m c = rw c.from_residual.ensures (search (limit_short, c.in_err-m.was))

pub signed_byte-requires : goal.signed_byte-requires
signed_byte-requires c = search (signed_within, c.in_ok-m.was)

pub returns-in_err-p : goal.returns-in_err-p
returns-in_err-p c = rw c.from_residual-in_err-p.ensures (search (limit_cut, c.in_ok-m.was, c.in_err-p.was))

pub returns : goal.returns
returns c = search (limit_read, c.in_ok-m.was, c.in_ok-p.was)
