-- Laws of the elements of a list by their numbers. Assumes nothing.
use Rattle.std.specs.Prelude.{None, slice_get}
use Prim.Native.Nat.{ℕ, zero, suc, ◌≤◌}
use native.Mathlib.Omega.{arith}
use mathlib.Core.Path.{◌≡◌, refl, sym}
use mathlib.Core.List.{List, [], ◌∷◌}
use Rattle.table.proofs.Whole.{never}

module _ {A : Type 0} where
  -- past the end there is nothing
  pub none_later : (l : List A) (n k : ℕ) → slice_get l n ≡ None → n ≤ k → slice_get l k ≡ None
  none_later [] n k e h = refl
  none_later (x ∷ l) zero k e h = absurd (never (sym e))
  none_later (x ∷ l) (suc n) zero e h = absurd (omega arith)
  none_later (x ∷ l) (suc n) (suc k) e h = none_later l n k e (omega arith)
