-- `ascii::write::decimal_length` meets its contract. The measure is the number. Assumes nothing.
use native.Mathlib.Omega.{arith}
use mathlib.Core.Path.{sym}
use Rattle.ascii.proofs.Decimal.{length_one, length_more, decimal_short}
use Prim.Native.Nat.{◌/◌}
use Rattle.ascii.proofs.write.+decimal_length.Goals as goal

pub returns-then-n-lt10 : goal.returns-then-n-lt10
returns-then-n-lt10 t c = sym (length_one _ c.if-n-lt10.true)

pub overflow_add-result : goal.overflow_add-result
overflow_add-result t c = omega (arith, decimal_short 19 (c.args.n / 10) (omega arith))

pub returns : goal.returns
returns t c = omega (arith, length_more _ c.if-n-lt10.false)
