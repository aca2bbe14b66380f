-- `ascii::numbers::twos_complement` meets its contract. Assumes nothing.
use Prim.Native.Nat.{◌-◌}
use native.Mathlib.Omega.{arith}
use mathlib.Core.Path.{◌∙◌}
use mir.Syntax.{w64}
use mir.Facts.{to_z_pos}
use Rattle.ascii.proofs.Endian.{twos_low, twos_high}
use Rattle.ascii.proofs.Sign.{negative_fits, negative}
use Rattle.ascii.proofs.numbers.twos_complement.Goals as goal

pub overflow_cast-result : goal.overflow_cast-result
overflow_cast-result c = record { sfits = omega arith }

pub returns-then-n-half : goal.returns-then-n-half
returns-then-n-half c = to_z_pos w64 (omega arith) ∙ twos_low c.half-half.ensures _ c.if-n-half.true

pub overflow_cast-result-2 : goal.overflow_cast-result-2
overflow_cast-result-2 c = record { sfits = omega arith }

pub overflow_sub-result : goal.overflow_sub-result
overflow_sub-result c = let h = c.half-half.result in
    let n = c.args.n in
    negative_fits w64 (h - 1 - (n - h)) (omega arith)

pub returns : goal.returns
returns c = let h = c.half-half.result in
    let n = c.args.n in
    negative w64 (h - 1 - (n - h)) (omega arith) ∙ twos_high c.half-half.ensures n c.if-n-half.false
