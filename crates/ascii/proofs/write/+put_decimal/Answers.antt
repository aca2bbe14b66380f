-- `ascii::write::put_decimal` meets its contract. The measure is the number. Assumes nothing.
use native.Mathlib.Omega.{arith}
use Rattle.ascii.proofs.Decimal.{decimal_one, decimal_more, length_one, length_more}
use Rattle.ascii.proofs.Puts.{puts_both}
use Rattle.ascii.proofs.write.+put_decimal.Goals as goal

pub put_digit-requires : goal.put_digit-requires
put_digit-requires t c = omega (arith, length_one _ c.if-n-lt10.true)

pub returns-then-n-lt10 : goal.returns-then-n-lt10
returns-then-n-lt10 t c = rw (decimal_one _ c.if-n-lt10.true) c.put_digit.ensures

pub put_decimal-last-requires : goal.put_decimal-last-requires
put_decimal-last-requires t c = omega (arith, length_more _ c.if-n-lt10.false)

pub put_digit-requires-2 : goal.put_digit-requires-2
put_digit-requires-2 t c = omega (arith, length_more _ c.if-n-lt10.false)

pub returns : goal.returns
returns t c = let whole = c.put_decimal-last.ensures in
    let large = c.if-n-lt10.false in
    rw (decimal_more _ large) (puts_both whole c.put_digit-2.ensures)
