-- `ascii::numbers::signed_byte` meets its contract. Assumes nothing.
use Rattle.std.proofs.Common.{◌∙◌, ◌+◌, ◌≤◌, ◌<◌, length, arith, w8}
use mir.Facts.{to_z-of_z}
use Rattle.ascii.proofs.Endian.{byte_signed, one_byte, signed_short, signed_read}
use Rattle.ascii.proofs.numbers.signed_byte.Goals as goal

pub returns-in_err-b : goal.returns-in_err-b
returns-in_err-b c = let past = c.in_err-b.ensures.lookup.3 in
    rw c.from_residual.ensures (signed_short c.args.s.now c.args.at 1 (omega arith))

pub returns : goal.returns
returns c = let at = c.args.at in
    let byte = c.in_ok-b.ensures.lookup.3 in
    let room : at + 1 ≤ length c.args.s.now = omega (arith, byte.0) in
    let low : c.in_ok-b.b.now < 256 = omega (arith, byte.1 0, c.type_inv.s at) in
    let n = byte.1 0 ∙ one_byte c.args.s.now at byte.0 in
    let v = to_z-of_z {w = w8} (record { sfits = c.cast_signed.type_inv }) ∙ c.cast_signed.ensures ∙ byte_signed _ low in
    (signed_read c.args.s.now at 1 n room v, room)
