-- `ascii::numbers::signed` meets its contract. Assumes nothing.
use Rattle.std.proofs.Common.{◌∙◌, ap, arith, w64}
use mir.Facts.{to_z-of_z}
use Rattle.ascii.specs.Numbers.{big_endian}
use Rattle.ascii.proofs.Endian.{lends_none, lends_room, lends_some, signed_short, signed_read}
use Rattle.ascii.proofs.numbers.signed.Goals as goal

pub returns-in_err-bytes : goal.returns-in_err-bytes
returns-in_err-bytes c = rw c.from_residual.ensures (signed_short c.args.s.now c.args.at c.args.k (lends_none _ _ _ c.in_err-bytes.ensures.lookup.0))

pub returns : goal.returns
returns c = let lent = c.in_ok-bytes.ensures.lookup.0 in
    let room = lends_room c.args.s.now c.args.at c.args.k lent.1 in
    let n = c.big_endian.ensures.is ∙ ap big_endian (lends_some c.args.s.now c.args.at c.args.k lent.2) in
    let v = to_z-of_z {w = w64} (record { sfits = c.twos_complement.type_inv }) ∙ c.twos_complement.ensures in
    (signed_read _ _ _ n (omega arith) v, omega arith)
