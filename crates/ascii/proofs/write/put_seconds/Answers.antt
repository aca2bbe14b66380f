-- `ascii::write::put_seconds` meets its contract. Assumes nothing.
use native.Mathlib.Omega.{arith}
use Rattle.ascii.proofs.Decimal.{length_seconds, seconds_parts}
use Rattle.ascii.proofs.Puts.{puts_both}
use Rattle.ascii.proofs.write.put_seconds.Goals as goal

pub put_decimal-dot-requires : goal.put_decimal-dot-requires
put_decimal-dot-requires c = omega (arith, length_seconds c.args.t)

pub put_byte-tenths-requires : goal.put_byte-tenths-requires
put_byte-tenths-requires c = omega (arith, length_seconds c.args.t)

pub put_digit-hundredths-requires : goal.put_digit-hundredths-requires
put_digit-hundredths-requires c = omega (arith, c.requires, length_seconds c.args.t)

pub put_digit-thousandths-requires : goal.put_digit-thousandths-requires
put_digit-thousandths-requires c = omega (arith, c.requires, length_seconds c.args.t)

pub put_digit-requires : goal.put_digit-requires
put_digit-requires c = omega (arith, c.requires, length_seconds c.args.t)

pub returns : goal.returns
returns c = let dotted = puts_both c.put_decimal-dot.ensures c.put_byte-tenths.ensures in
    let two = puts_both (puts_both dotted c.put_digit-hundredths.ensures) c.put_digit-thousandths.ensures in
    rw (seconds_parts c.args.t) (puts_both two c.put_digit.ensures)
