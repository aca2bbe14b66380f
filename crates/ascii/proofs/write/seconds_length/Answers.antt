-- `ascii::write::seconds_length` meets its contract. Assumes nothing.
use Prim.Native.Nat.{◌/◌}
use native.Mathlib.Omega.{arith}
use Rattle.ascii.proofs.Decimal.{decimal_low, length_seconds}
use Rattle.ascii.proofs.write.seconds_length.Goals as goal

pub overflow_add-result : goal.overflow_add-result
overflow_add-result c = omega (arith, decimal_low (c.args.t / 1000) (omega arith))

pub returns : goal.returns
returns c = omega (arith, length_seconds c.args.t)
