-- `ascii::write::put_integer` meets its contract. Assumes nothing.
use native.Mathlib.Omega.{arith}
use mathlib.Core.Path.{refl, ap}
use lib.ListN.{length}
use mir.Syntax.{w64}
use Rattle.ascii.proofs.Sign.{integer_negative, integer_plain}
use Rattle.ascii.proofs.Puts.{puts_both}
use Rattle.ascii.proofs.write.put_integer.Goals as goal

pub put_byte-first-requires : goal.put_byte-first-requires
put_byte-first-requires c = omega (arith, ap length (integer_negative w64 _ c.ranges.n refl c.if-n-lt0.true))

pub put_decimal-requires : goal.put_decimal-requires
put_decimal-requires c = omega (arith, ap length (integer_negative w64 _ c.ranges.n c.unsigned_abs.ensures.value c.if-n-lt0.true))

pub returns-then-n-lt0 : goal.returns-then-n-lt0
returns-then-n-lt0 c = rw (integer_negative w64 _ c.ranges.n c.unsigned_abs.ensures.value c.if-n-lt0.true)
    (puts_both c.put_byte-first.ensures c.put_decimal.ensures)

pub put_decimal-requires-2 : goal.put_decimal-requires-2
put_decimal-requires-2 c = omega (arith, ap length (integer_plain w64 _ c.ranges.n c.unsigned_abs-2.ensures.value c.if-n-lt0.false))

pub returns : goal.returns
returns c = rw (integer_plain w64 _ c.ranges.n c.unsigned_abs-2.ensures.value c.if-n-lt0.false) c.put_decimal-2.ensures
