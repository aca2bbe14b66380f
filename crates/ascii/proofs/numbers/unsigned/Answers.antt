-- `ascii::numbers::unsigned` meets its contract. Assumes nothing.
use Rattle.std.proofs.Common.{◌∙◌, ap, arith}
use Rattle.ascii.specs.Numbers.{big_endian}
use Rattle.ascii.proofs.Endian.{lends_none, lends_room, lends_some, unsigned_short, unsigned_read}
use Rattle.ascii.proofs.numbers.unsigned.Goals as goal

pub returns-in_err-bytes : goal.returns-in_err-bytes
returns-in_err-bytes c = rw c.from_residual.ensures (unsigned_short c.args.s.now c.args.at c.args.k (lends_none _ _ _ c.in_err-bytes.ensures.lookup.0))

pub returns : goal.returns
returns c = let lent = c.in_ok-bytes.ensures.lookup.0 in
    let room = lends_room c.args.s.now c.args.at c.args.k lent.1 in
    let v = c.big_endian.ensures.is ∙ ap big_endian (lends_some c.args.s.now c.args.at c.args.k lent.2) in
    (unsigned_read _ _ _ v (omega arith), omega arith)
