-- Laws of whole numbers that are differences of two natural ones. Assumes nothing.
use Prim.Native.Nat.{ℕ, zero, suc, ◌+◌, ◌-◌, ◌≤◌, ◌<◌}
use native.Mathlib.Omega.{arith}
use mathlib.Core.Bool.{Bool, true, false, cond}
use mathlib.Core.List.{List}
use mathlib.Core.Path.{◌≡◌, refl, sym, ap, ◌∙◌}
use lib.Dec.{eqb, leb, ltb}
use lib.IntN.{pos, negsuc, neg_ℤ, sub_ℕ, ◌+ℤ◌}
use lib.Signed.{le_z}
use borrow.Author.Tests.{ltb-true, ltb-false, lt-ltb, le-ltb, le-leb, lt-leb, ne_eqb}
use Rattle.ascii.specs.Bytes.{head}
use Rattle.decimal.specs.Decimal.{numeral_from, numeral}
use Rattle.decimal.proofs.Integers.{sub_same}
use Rattle.decimal.proofs.Naturals.{leb_same}
use Rattle.figures.specs.Clauses.Tally.{below_zero, above, Small}

-- a sum of differences is the difference of the sums
pub sub_sum : (a b c d : ℕ) → sub_ℕ (a + c) (b + d) ≡ sub_ℕ a b +ℤ sub_ℕ c d
sub_sum a b c d = go (ltb a b) (ltb c d) refl refl
  where
    go : (s t : Bool) → ltb a b ≡ s → ltb c d ≡ t → sub_ℕ (a + c) (b + d) ≡ sub_ℕ a b +ℤ sub_ℕ c d
    go false false e f =
        let h = ltb-false a b e in
        let k = ltb-false c d f in
        rw (e, f, le-ltb (a + c) (b + d) (omega arith)) (ap pos (omega arith))
    go true true e f =
        let h = ltb-true a b e in
        let k = ltb-true c d f in
        rw (e, f, lt-ltb (a + c) (b + d) (omega arith)) (ap negsuc (omega arith))
    go false true e f =
        let h = ltb-false a b e in
        let k = ltb-true c d f in
        let s : sub_ℕ (a + c) (b + d) ≡ sub_ℕ (a - b) (suc (d - suc c)) = sub_same (a + c) (b + d) (a - b) (suc (d - suc c)) (omega arith) in
        s ∙ rw (e, f) refl
    go true false e f =
        let h = ltb-true a b e in
        let k = ltb-false c d f in
        let s : sub_ℕ (a + c) (b + d) ≡ sub_ℕ (c - d) (suc (b - suc a)) = sub_same (a + c) (b + d) (c - d) (suc (b - suc a)) (omega arith) in
        s ∙ rw (e, f) refl

-- differences from the same number compare as the numbers do
pub sub_order : (a b c : ℕ) → le_z (sub_ℕ a c) (sub_ℕ b c) ≡ leb a b
sub_order a b c = go (ltb a c) (ltb b c) refl refl
  where
    go : (s t : Bool) → ltb a c ≡ s → ltb b c ≡ t → le_z (sub_ℕ a c) (sub_ℕ b c) ≡ leb a b
    go false false e f =
        let h = ltb-false a c e in
        let k = ltb-false b c f in
        rw (e, f) (leb_same (a - c) (b - c) a b (λ x. omega arith) (λ x. omega arith))
    go true true e f =
        let h = ltb-true a c e in
        let k = ltb-true b c f in
        rw (e, f) (leb_same (c - suc b) (c - suc a) a b (λ x. omega arith) (λ x. omega arith))
    go false true e f =
        let h = ltb-false a c e in
        let k = ltb-true b c f in
        rw (e, f) (sym (lt-leb a b (omega arith)))
    go true false e f =
        let h = ltb-true a c e in
        let k = ltb-false b c f in
        rw (e, f) (sym (le-leb a b (omega arith)))

-- ## How far a number lies above the least

above_pos : (n : ℕ) → sub_ℕ (below_zero + n) below_zero ≡ pos n
above_pos n = rw (le-ltb (below_zero + n) below_zero (omega arith)) (ap pos (omega arith))

above_negative : (n : ℕ) → n < below_zero → sub_ℕ (below_zero - 1 - n) below_zero ≡ negsuc n
above_negative n h = rw (lt-ltb (below_zero - 1 - n) below_zero (omega arith)) (ap negsuc (omega arith))

signed_back : (s : Bool) (n : ℕ) → n ≤ below_zero → sub_ℕ (above (cond s (neg_ℤ (pos n)) (pos n))) below_zero ≡ cond s (neg_ℤ (pos n)) (pos n)
unfolding above
signed_back false n h = above_pos n
signed_back true zero h = above_pos 0
signed_back true (suc n) h = above_negative n (omega arith)

pub numeral_back : (v : List ℕ) → Small v → sub_ℕ (above (numeral v)) below_zero ≡ numeral v
unfolding numeral
numeral_back v h = signed_back (eqb (head v) 45) (numeral_from 0 v) h

minus_above : (n : ℕ) → n ≤ below_zero → below_zero - n ≡ above (neg_ℤ (pos n))
unfolding above
minus_above zero h = omega arith
minus_above (suc n) h = omega arith

-- the code's two ways
pub numeral_minus : (t : List ℕ) (n b : ℕ) → n ≡ numeral_from 0 t → Small t → b ≡ head t → b ≡ 45 → below_zero - n ≡ above (numeral t)
unfolding numeral
numeral_minus t n b e h f g =
    let z : head t ≡ 45 = sym f ∙ g in
    rw (e, z) (minus_above (numeral_from 0 t) h)

pub numeral_plus : (t : List ℕ) (n b : ℕ) → n ≡ numeral_from 0 t → b ≡ head t → (b ≡ 45 → ⊥) → below_zero + n ≡ above (numeral t)
unfolding numeral above
numeral_plus t n b e f g = rw (e, ne_eqb (head t) 45 (λ z. g (f ∙ z))) refl
