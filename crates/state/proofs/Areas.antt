-- Laws of a list with places of one size: what is written into one place leaves the others as they were. Assumes nothing.
use Prim.Native.Nat.{ℕ, zero, suc, ◌+◌, ◌*◌, ◌≤◌, ◌<◌}
use native.Mathlib.Nat.{suc-add, add-suc, zero-add}
use native.Mathlib.Omega.{arith}
use mathlib.Core.Path.{◌≡◌, refl, sym, ap, ◌∙◌}
use mathlib.Core.Bool.{Bool, true, false}
use mathlib.Core.List.{List, [], ◌∷◌, ◌++◌, append_assoc}
use lib.Dec.{ltb}
use lib.ListN.{length, take, drop, set, length-append}
use lib.Seq.{sets, sets-eq, take-nil, take-add, take_at, drop_at, take-set-le, drop-set-lt, length-take-le}
use borrow.Author.Tests.{ltb-true, ltb-false}

take_sets : (vs l : List ℕ) (n i : ℕ) → n ≤ i → take n (sets l i vs) ≡ take n l
take_sets [] l n i h = refl
take_sets (v ∷ vs) l n i h = take_sets vs (set l i v) n (suc i) (omega arith) ∙ take-set-le n l i v h

drop_sets : (vs l : List ℕ) (n i : ℕ) → i + length vs ≤ n → drop n (sets l i vs) ≡ drop n l
drop_sets [] l n i h = refl
drop_sets (v ∷ vs) l n i h =
    let k : suc i + length vs ≤ n = rw (suc-add i (length vs), ← (add-suc i (length vs))) h in
    let e : i < n = omega (arith, suc-add i (length vs)) in
    drop_sets vs (set l i v) n (suc i) k ∙ drop-set-lt n l i v e

take_drop : (a m : ℕ) (l : List ℕ) → take m (drop a l) ≡ drop a (take (a + m) l)
take_drop zero m l = ap (λ (k : ℕ). take k l) (sym (zero-add m))
take_drop (suc a) m [] = take-nil m ∙ ap (drop (suc a)) (sym (take-nil (suc a + m)))
take_drop (suc a) m (x ∷ l) = rw suc-add (take_drop a m l)

kept_before : (vs l : List ℕ) (a m i : ℕ) → a + m ≤ i → take m (drop a (sets l i vs)) ≡ take m (drop a l)
kept_before vs l a m i h = take_drop a m (sets l i vs) ∙ ap (drop a) (take_sets vs l (a + m) i h) ∙ sym (take_drop a m l)

kept_after : (vs l : List ℕ) (a m i : ℕ) → i + length vs ≤ a → take m (drop a (sets l i vs)) ≡ take m (drop a l)
kept_after vs l a m i h = ap (take m) (drop_sets vs l a i h)

-- places of 1,024 bytes and of 256: in place c something is written after its first n bytes, and place d is another
module _ (vs l : List ℕ) (c n d m : ℕ) (h : d ≡ c → ⊥) where
  pub other_line : n + length vs ≤ 1024 → m ≤ 1024 → take m (drop (1024 * d) (sets l (1024 * c + n) vs)) ≡ take m (drop (1024 * d) l)
  other_line p q = go (ltb d c) (ltb-true d c) (ltb-false d c)
    where
      go : (t : Bool) → (t ≡ true → d < c) → (t ≡ false → c ≤ d) → take m (drop (1024 * d) (sets l (1024 * c + n) vs)) ≡ take m (drop (1024 * d) l)
      go true x y = let k = x refl in kept_before vs l (1024 * d) m (1024 * c + n) (omega arith)
      go false x y = let k = y refl in kept_after vs l (1024 * d) m (1024 * c + n) (omega arith)

  pub other_value : n + length vs ≤ 256 → m ≤ 256 → take m (drop (256 * d) (sets l (256 * c + n) vs)) ≡ take m (drop (256 * d) l)
  other_value p q = go (ltb d c) (ltb-true d c) (ltb-false d c)
    where
      go : (t : Bool) → (t ≡ true → d < c) → (t ≡ false → c ≤ d) → take m (drop (256 * d) (sets l (256 * c + n) vs)) ≡ take m (drop (256 * d) l)
      go true x y = let k = x refl in kept_before vs l (256 * d) m (256 * c + n) (omega arith)
      go false x y = let k = y refl in kept_after vs l (256 * d) m (256 * c + n) (omega arith)

-- the place itself, of which the first n bytes are kept
pub written : (vs l : List ℕ) (a n : ℕ) → a + n + length vs ≤ length l → take (n + length vs) (drop a (sets l (a + n) vs)) ≡ take n (drop a l) ++ vs
written vs l a n h =
    let x = take n (drop a l) in
    let rest = drop (a + n + length vs) l in
    let split : sets l (a + n) vs ≡ take a l ++ (x ++ vs ++ rest) = sets-eq vs l (a + n) h ∙ rw (take-add, append_assoc, append_assoc, append_assoc) in
    let front : length (take a l) ≡ a = length-take-le a l (omega arith) in
    let whole : length (take (a + n) l) ≡ a + n = length-take-le (a + n) l (omega arith) in
    let sum : length (take a l) + length x ≡ a + n = sym (length-append (take a l) x) ∙ ap length (sym (take-add a n l)) ∙ whole in
    let size : length (x ++ vs) ≡ n + length vs = length-append x vs ∙ omega arith in
    ap (λ (k : List ℕ). take (n + length vs) (drop a k)) split
    ∙ ap (take (n + length vs)) (drop_at (take a l) (x ++ vs ++ rest) a front)
    ∙ take_at (x ++ vs) rest (n + length vs) size
