-- Laws of the comparison, a loop that goes over two names at once. Assumes nothing.
use Prim.Native.Nat.{ℕ, ◌+◌, ◌<◌}
use native.Mathlib.Omega.{arith}
use mathlib.Core.Path.{◌≡◌, refl, sym, ap, ap₂, ◌∙◌}
use mathlib.Core.Bool.{Bool, true, false}
use mathlib.Core.List.{List}
use lib.ListN.{length, get_or}
use Rattle.std.proofs.Common.{◌⊎◌, inl, inr}
use Rattle.std.proofs.Math.Nat.{eq-or-lt_of_le}
use Rattle.std.proofs.lemmas.List.{same_lists, get_or_default}
use Rattle.ascii.specs.Bytes.{same}
use Rattle.ascii.specs.Theorems.{Equal, FirstDiffers}
use Rattle.ascii.specs.declared.names.Compared.{Compared}
use Rattle.ascii.specs.Clauses.Compared.{compared}
use Rattle.ascii.proofs.Counts.{pairs_are_counted}
use Rattle.ascii.proofs.Lists.{same_self, same_is}

answer : {s t : Bool} {n m : ℕ} → s ≡ t → n ≡ m → ◌≡◌ {A = Compared} (record { same = s; pairs = n }) (record { same = t; pairs = m })
answer p q = ap₂ (λ (s : Bool) (n : ℕ). record { same = s; pairs = n }) p q

module _ (xs ys : List ℕ) where
  other : (xs ≡ ys → ⊥) → false ≡ same xs ys
  other h = go (same xs ys) refl
    where
      go : (t : Bool) → same xs ys ≡ t → false ≡ t
      go true e = absurd (h (same_is xs ys e))
      go false e = refl

  -- the first i pairs are equal
  abbrev pub Agree : ℕ → Type 0
  Agree i = (j : ℕ) → j < i → Equal xs ys j

  pub agree_start : Agree 0
  agree_start j h = omega arith

  pub agree_more : (i : ℕ) → Agree i → Equal xs ys i → Agree (i + 1)
  agree_more i f e j h = go (eq-or-lt_of_le (omega arith))
    where
      go : (j ≡ i) ⊎ (j < i) → Equal xs ys j
      go (inl p) = rw p e
      go (inr k) = f j k

  -- the lengths differ
  pub compared_lengths : (length xs ≡ length ys → ⊥) → record { same = false; pairs = 0 } ≡ compared xs ys
  unfolding compared
  compared_lengths h = answer (other (λ e. h (ap length e))) (sym ((pairs_are_counted xs ys).none h))

  module _ (l : length xs ≡ length ys) where
    pub compared_first : (i : ℕ) → FirstDiffers xs ys i → record { same = false; pairs = i + 1 } ≡ compared xs ys
    unfolding compared
    compared_first i f = answer (other (λ e. f.differs (ap (λ (zs : List ℕ). get_or zs i 0) e))) (sym ((pairs_are_counted xs ys).first l i f))

    pub compared_all : ((i : ℕ) → i < length xs → Equal xs ys i) → record { same = true; pairs = length xs } ≡ compared xs ys
    unfolding compared
    compared_all f = answer (sym (ap (same xs) (sym is) ∙ same_self xs)) (sym ((pairs_are_counted xs ys).all l f))
      where
        is : xs ≡ ys
        is = same_lists xs ys l (λ k d h. get_or_default xs k d 0 h ∙ f k h ∙ get_or_default ys k 0 d (omega arith))
