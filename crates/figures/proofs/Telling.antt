-- Laws of the pieces of a parameter's line. Assumes nothing.
use Prim.Native.Nat.{ℕ, ◌-◌, ◌*◌, ◌^◌, ◌≤◌, ◌<◌}
use native.Mathlib.Omega.{arith}
use mathlib.Core.Bool.{Bool, true, false, cond}
use mathlib.Core.List.{List, [], ◌∷◌, ◌++◌}
use mathlib.Core.Path.{◌≡◌, refl, ap}
use lib.Dec.{ltb, eqb}
use lib.IntN.{sub_ℕ}
use lib.ListN.{length, length-append}
use borrow.Author.Tests.{lt-ltb, le-ltb, ltb-true, ltb-false, ne_eqb}
use Rattle.ascii.specs.Text.{bytes}
use Rattle.ascii.specs.Numbers.{decimal, integer}
use Rattle.ascii.proofs.Decimal.{decimal_low}
use Rattle.emit.specs.Clauses.Emitted.{Emits}
use Rattle.emit.proofs.Pieces.{both, nothing}
use Rattle.figures.specs.declared.Tally.{Tally}
use Rattle.figures.specs.Figures.{full}
use Rattle.figures.specs.Clauses.Tally.{below_zero, Low, tally_numbers, full_text, count_text, tally_line}

negative : (n base : ℕ) → n < base → integer (sub_ℕ n base) ≡ bytes "-" ++ decimal (base - n)
unfolding integer
negative n base h = rw (lt-ltb n base h) (ap (λ k. bytes "-" ++ decimal k) (omega arith))

positive : (n base : ℕ) → base ≤ n → integer (sub_ℕ n base) ≡ decimal (n - base)
unfolding integer
positive n base h = rw (le-ltb n base h) refl

module _ {d : List ℕ} {at : ℕ} {e : List ℕ} {r : ℕ} where
  pub difference_below : (n base : ℕ) → n < base → Emits d at (bytes "-" ++ decimal (base - n)) e r → Emits d at (integer (sub_ℕ n base)) e r
  difference_below n base h x = rw (negative n base h) x

  pub difference_above : (n base : ℕ) → base ≤ n → Emits d at (decimal (n - base)) e r → Emits d at (integer (sub_ℕ n base)) e r
  difference_above n base h x = rw (positive n base h) x

  pub numbers_none : (t : Tally) → t.count ≡ 0 → Emits d at (bytes " none") e r → Emits d at (tally_numbers t) e r
  unfolding tally_numbers
  numbers_none t z x = rw z x

  pub numbers_some : (t : Tally) (k : ℕ) → (t.count ≡ 0 → ⊥) → k ≡ t.count → {f g : List ℕ} {p q : ℕ}
      → Emits d at (bytes " least " ++ integer (sub_ℕ t.least below_zero)) f p
      → Emits f p (bytes " greatest " ++ integer (sub_ℕ t.greatest below_zero)) g q
      → Emits g q (bytes " sum " ++ integer (sub_ℕ t.sum (k * below_zero))) e r → Emits d at (tally_numbers t) e r
  unfolding tally_numbers
  numbers_some t k n i x y z = rw (ne_eqb t.count 0 n) (both (both x y) (rw i at z))

  pub full_yes : (n : ℕ) → full ≤ n → Emits d at (bytes " full") e r → Emits d at (full_text n) e r
  unfolding full_text
  full_yes n h x = rw (le-ltb n full h) x

  pub count_text_lem : (m p : List ℕ) (n k : ℕ) → k ≡ n → {f g h : List ℕ} {a b c : ℕ} → Emits d at m f a → Emits f a (58 ∷ []) g b → Emits g b p h c
      → Emits h c (bytes " count " ++ decimal k) e r → Emits d at (count_text m p n) e r
  unfolding count_text bytes
  count_text_lem m p n k i x y z w = both (both (both x y) z) (rw i at w)

  pub line_text : (m p : List ℕ) (s : Bool) (t : Tally) {f g h : List ℕ} {a b c : ℕ} → Emits d at (count_text m p t.count) f a
      → Emits f a (cond s (tally_numbers t) []) g b → Emits g b (full_text t.count) h c → Emits h c (10 ∷ []) e r → Emits d at (tally_line m p s t) e r
  unfolding tally_line bytes
  line_text m p s t x y z w = both (both (both x y) z) w

module _ (d : List ℕ) (at : ℕ) (l : at ≤ 18446744073709551615) where
  pub full_no : (n : ℕ) → n < full → Emits d at (full_text n) d at
  unfolding full_text
  full_no n h = rw (lt-ltb n full h) (nothing d at l)

-- ## Lengths

difference_short : (n base : ℕ) → n < 2 ^ 64 → base < 2 ^ 64 → length (integer (sub_ℕ n base)) ≤ 21
unfolding bytes
difference_short n base h g = go (ltb n base) refl
  where
    go : (t : Bool) → ltb n base ≡ t → length (integer (sub_ℕ n base)) ≤ 21
    go true e =
        let l = decimal_low (base - n) (omega arith) in
        let z = ap length (negative n base (ltb-true n base e)) in
        omega arith
    go false e =
        let l = decimal_low (n - base) (omega arith) in
        let z = ap length (positive n base (ltb-false n base e)) in
        omega arith

module _ (t : Tally) (b : Low t) where
  numbers_short : length (tally_numbers t) ≤ 85
  unfolding tally_numbers bytes
  numbers_short = go (eqb t.count 0)
    where
      go : (u : Bool) → length (cond u (bytes " none")
          ((bytes " least " ++ integer (sub_ℕ t.least below_zero)) ++ (bytes " greatest " ++ integer (sub_ℕ t.greatest below_zero))
          ++ (bytes " sum " ++ integer (sub_ℕ t.sum (t.count * below_zero))))) ≤ 85
      go true = omega arith
      go false =
          let c = b.count in
          let s = b.sum in
          let x = difference_short t.least below_zero (let l = b.least in omega arith) (omega arith) in
          let y = difference_short t.greatest below_zero (let l = b.greatest in omega arith) (omega arith) in
          let z = difference_short t.sum (t.count * below_zero) (omega arith) (omega arith) in
          simp length-append (omega arith)

  pub line_short : (m p : List ℕ) (s : Bool) → length m ≤ 63 → length p ≤ 63 → length (tally_line m p s t) ≤ 245
  unfolding tally_line count_text full_text bytes
  line_short m p s h g =
      let c = b.count in
      let l = decimal_low t.count (omega arith) in
      let x = either s in
      let y = ending (ltb t.count full) in
      simp length-append (omega arith)
    where
      either : (u : Bool) → length (cond u (tally_numbers t) []) ≤ 85
      either true = numbers_short
      either false = omega arith

      ending : (u : Bool) → length (cond u [] (bytes " full")) ≤ 5
      ending true = omega arith
      ending false = omega arith
