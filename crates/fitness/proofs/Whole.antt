-- The parameters of an accepted table one by one: at most 64. Assumes nothing.
use Rattle.std.specs.Prelude.{Some, slice_get}
use Prim.Native.Nat.{ℕ, zero, suc, ◌+◌, ◌≤◌}
use native.Mathlib.Numerals.{add-one}
use native.Mathlib.Omega.{arith}
use mathlib.Core.List.{List, [], ◌∷◌}
use mathlib.Core.Path.{◌≡◌, ap}
use lib.ListN.{length, drop, drop_of_length-le}
use Rattle.table.specs.Layout.{table_of}
use Rattle.table.specs.Search.{parameters}
use Rattle.table.proofs.Accessibles.{in_some}
use Rattle.report.specs.Judge.{table_number}
use Rattle.sound.proofs.Accepted.{accepted}

module _ {A : Type 0} where
  there : (n : ℕ) (l : List A) (x : A) → slice_get l n ≡ Some x → drop n l ≡ x ∷ drop (suc n) l
  there n [] x e = let z : ◌≡◌ {A = ℕ} 0 1 = cc in absurd (omega arith)
  there zero (y ∷ l) x e = ap (λ (z : A). z ∷ l) (in_some e)
  there (suc n) (y ∷ l) x e = there n l x e

  -- what is left begins with the element of its number
  pub drop_there : (n : ℕ) (l : List A) (x : A) → slice_get l n ≡ Some x → drop n l ≡ x ∷ drop (n + 1) l
  drop_there n l x e = rw (add-one n) (there n l x e)

-- past 64 there is none
pub past_64 : (s : List ℕ) → table_number s ≡ 0 → (n : ℕ) → 64 ≤ n → drop n (parameters (table_of s)) ≡ []
past_64 s e n h =
    let f = (accepted s e).few in
    let l : length (parameters (table_of s)) ≤ n = omega arith in
    drop_of_length-le (parameters (table_of s)) l
