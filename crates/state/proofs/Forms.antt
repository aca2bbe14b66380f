-- What was written to a buffer stands there. Assumes nothing.
use Prim.Native.Nat.{ℕ, ◌+◌, ◌-◌, ◌≤◌}
use native.Mathlib.Nat.{add-zero}
use native.Mathlib.Omega.{arith}
use mathlib.Core.Path.{◌≡◌, subst}
use mathlib.Core.List.{List}
use lib.ListN.{length, take, drop}
use lib.Seq.{sets}
use Rattle.ascii.specs.Clauses.Writer.{Puts}
use Rattle.state.proofs.Areas as Areas

-- the bytes that a writer wrote stand where it wrote them
pub stands : {d : List ℕ} {at : ℕ} {bs e : List ℕ} {p : ℕ} → Puts d at bs e p → p ≤ length d → take (p - at) (drop at e) ≡ bs
stands {d} {at} {bs} {e} {p} x h =
    let z = x.ends in
    let size : p - at ≡ 0 + length bs = omega arith in
    let w = Areas.written bs d at 0 (omega arith) in
    rw (size, x.is) (subst (λ k. take (0 + length bs) (drop at (sets d k bs)) ≡ bs) (add-zero at) w)
