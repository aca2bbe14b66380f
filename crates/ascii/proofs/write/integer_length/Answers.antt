-- `ascii::write::integer_length` meets its contract. Assumes nothing.
use native.Mathlib.Omega.{arith}
use mathlib.Core.Path.{ap}
use lib.ListN.{length}
use mir.Syntax.{w64}
use Rattle.ascii.proofs.Decimal.{decimal_low}
use Rattle.ascii.proofs.Sign.{integer_negative, integer_plain}
use Rattle.ascii.proofs.write.integer_length.Goals as goal

pub overflow_add-result : goal.overflow_add-result
overflow_add-result c = omega (arith, decimal_low c.unsigned_abs.result c.unsigned_abs.type_inv)

pub returns-then-n-lt0 : goal.returns-then-n-lt0
returns-then-n-lt0 c = omega (arith, ap length (integer_negative w64 _ c.ranges.n c.unsigned_abs.ensures.value c.if-n-lt0.true))

pub returns-else-n-lt0 : goal.returns-else-n-lt0
returns-else-n-lt0 c = omega (arith, ap length (integer_plain w64 _ c.ranges.n c.unsigned_abs.ensures.value c.if-n-lt0.false))
