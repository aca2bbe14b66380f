-- Laws of a line's content: without one final carriage return, and of printable bytes alone. Assumes nothing.
use Prim.Native.Nat.{ℕ, suc, ◌-◌, ◌≤◌, ◌<◌}
use native.Mathlib.Omega.{arith}
use borrow.Author.Tests.{ne_eqb}
use mathlib.Core.Path.{◌≡◌, refl, sym, ap, ◌∙◌}
use mathlib.Core.Bool.{Bool, true, false, cond}
use mathlib.Core.List.{List, [], ◌∷◌, ◌++◌}
use lib.ListN.{length, take, get_or}
use lib.Seq.{take-suc, take_all}
use lib.Dec.{eqb}
use Rattle.ascii.specs.Bytes.{all, is_printable}
use Rattle.message.specs.Line.{without_return, printable, content, whole}
use Rattle.message.specs.Clauses.Parsed.{UpTo}

without_last : (xs : List ℕ) (b : ℕ) → without_return (xs ++ (b ∷ [])) ≡ cond (eqb b 13) xs (xs ++ (b ∷ []))
unfolding without_return
without_last [] b = refl
without_last (x ∷ []) b = go (eqb b 13)
  where
    go : (t : Bool) → x ∷ cond t [] (b ∷ []) ≡ cond t (x ∷ []) (x ∷ b ∷ [])
    go true = refl
    go false = refl
without_last (x ∷ y ∷ ys) b = ap (λ (l : List ℕ). x ∷ l) (without_last (y ∷ ys) b) ∙ go (eqb b 13)
  where
    go : (t : Bool) → x ∷ cond t (y ∷ ys) (y ∷ ys ++ (b ∷ [])) ≡ cond t (x ∷ y ∷ ys) (x ∷ y ∷ ys ++ (b ∷ []))
    go true = refl
    go false = refl

pub one_return : (xs : List ℕ) → xs ≡ take (length xs - 1) xs ++ (13 ∷ []) → UpTo xs (length xs - 1) (without_return xs)
one_return xs e = record { is = sym (ap without_return e ∙ without_last (take (length xs - 1) xs) 13); within = omega arith }

module _ (xs : List ℕ) (n : (front : List ℕ) → xs ≡ front ++ (13 ∷ []) → ⊥) where
  last : (length xs ≡ 0 → ⊥) → xs ≡ take (length xs - 1) xs ++ (get_or xs (length xs - 1) 0 ∷ [])
  last some =
      let k : length xs ≤ suc (length xs - 1) = omega arith in
      let h : length xs - 1 < length xs = omega arith in
      sym (take_all (suc (length xs - 1)) xs k) ∙ take-suc xs (length xs - 1) 0 h

  kept : (length xs ≡ 0 → ⊥) → without_return xs ≡ xs
  kept some =
      let e = last some in
      let b = get_or xs (length xs - 1) 0 in
      let m : b ≡ 13 → ⊥ = λ h. n (take (length xs - 1) xs) (e ∙ ap (λ (x : ℕ). take (length xs - 1) xs ++ (x ∷ [])) h) in
      ap without_return e ∙ without_last (take (length xs - 1) xs) b ∙ rw (ne_eqb b 13 m) (sym e)

  pub no_return : UpTo xs (length xs) (without_return xs)
  unfolding without_return
  no_return = record { is = take_all (length xs) xs (omega arith) ∙ sym (or_none xs kept); within = omega arith }
    where
      or_none : (ys : List ℕ) → ((length ys ≡ 0 → ⊥) → without_return ys ≡ ys) → without_return ys ≡ ys
      or_none [] h = refl
      or_none (y ∷ ys) h = h (λ e. omega arith)

module _ (xs : List ℕ) (r : ℕ) (e : UpTo xs r (without_return xs)) {t : Bool} (d : t ≡ all is_printable (take r xs)) where
  pub content_is : t ≡ true → UpTo xs r (content (whole xs))
  unfolding content printable
  content_is h = record { is = e.is ∙ rw (← e.is, sym d ∙ h); within = e.within }

  pub content_none : t ≡ false → UpTo xs 0 (content (whole xs))
  unfolding content printable
  content_none h = record { is = rw (← e.is, sym d ∙ h); within = omega arith }
