-- Laws of the bytes of an index as they are met from a place on, and of how many bytes pass a test. Assumes nothing.
use Prim.Native.Nat.{ℕ, zero, suc, ◌+◌, ◌-◌, ◌%◌, ◌≤◌, ◌<◌}
use native.Mathlib.Nat.{add_comm, mod-eq_of_lt}
use native.Mathlib.Omega.{arith}
use mathlib.Core.Path.{◌≡◌, refl, sym, ap, ◌∙◌}
use mathlib.Core.Bool.{Bool, true, false, cond, not, false≢true}
use mathlib.Core.List.{List, [], ◌∷◌, ◌++◌}
use lib.Dec.{ltb}
use lib.ListN.{length, get_or, take, drop, set, length-append, length-take, length-drop, take-append-drop, get_or-append}
use lib.Seq.{get_or-append-add, get_or-drop, get_or-take}
use borrow.Author.Tests.{ltb-true, ltb-false, eqb-true, eq-eqb, ne_eqb}
use Rattle.ascii.specs.Bytes.{count, take_while}
use Rattle.index.specs.Index.{is_free, is_used, around}

-- ## Counts

module _ (f : ℕ → Bool) where
  abbrev pub one : ℕ → ℕ
  one b = cond (f b) 1 0

  count_append : (xs ys : List ℕ) → count f (xs ++ ys) ≡ count f xs + count f ys
  unfolding count
  count_append [] ys = omega arith
  count_append (x ∷ xs) ys = let h = count_append xs ys in omega arith

  -- a byte v in the place of another
  pub count_set : (xs : List ℕ) (i v : ℕ) → i < length xs → count f (set xs i v) + one (get_or xs i 255) ≡ count f xs + one v
  unfolding count
  count_set [] i v h = absurd (omega arith)
  count_set (x ∷ xs) zero v h = omega arith
  count_set (x ∷ xs) (suc i) v h = let e = count_set xs i v (omega arith) in omega arith

  -- none passes
  pub count_none : (xs : List ℕ) → ((i : ℕ) → i < length xs → f (get_or xs i 255) ≡ false) → count f xs ≡ 0
  unfolding count
  count_none [] h = refl
  count_none (x ∷ xs) h = rw (h 0 (omega arith)) (let e = count_none xs (λ i l. h (suc i) (omega arith)) in omega arith)

  pub count_around : (p : ℕ) (xs : List ℕ) → count f (around p xs) ≡ count f xs
  unfolding around
  count_around p xs =
      count_append (drop p xs) (take p xs) ∙ add_comm (count f (drop p xs)) (count f (take p xs))
      ∙ sym (count_append (take p xs) (drop p xs)) ∙ ap (count f) (take-append-drop p xs)

-- ## The bytes from a place on

pub length_around : (p : ℕ) (xs : List ℕ) → length (around p xs) ≡ length xs
unfolding around
length_around p xs = simp (length-append, length-take, length-drop) (omega arith)

-- i bytes from the place p on is round the end, or it is not
module _ {P : Type 0} (p i : ℕ) (before : p + i < 128 → P) (round : 128 ≤ p + i → P) where
  by_end : P
  by_end = go (ltb (p + i) 128) refl
    where
      go : (t : Bool) → ltb (p + i) 128 ≡ t → P
      go true e = before (ltb-true (p + i) 128 e)
      go false e = round (ltb-false (p + i) 128 e)

module _ (xs : List ℕ) (size : length xs ≡ 128) (p i : ℕ) (hp : p < 128) (hi : i < 128) where
  pub get_d_around : (d : ℕ) → get_or (around p xs) i d ≡ get_or xs ((p + i) % 128) d
  unfolding around
  get_d_around d = by_end p i before round
    where
      before : p + i < 128 → get_or (drop p xs ++ take p xs) i d ≡ get_or xs ((p + i) % 128) d
      before h =
          let l : i < length (drop p xs) = rw length-drop (omega arith) in
          get_or-append (drop p xs) (take p xs) d i l ∙ get_or-drop p xs i d ∙ rw (mod-eq_of_lt h)

      round : 128 ≤ p + i → get_or (drop p xs ++ take p xs) i d ≡ get_or xs ((p + i) % 128) d
      round h =
          let e : i ≡ length (drop p xs) + (p + i - 128) = rw length-drop (omega arith) in
          let m : (p + i) % 128 ≡ p + i - 128 = omega arith in
          let l : p + i - 128 < p = omega arith in
          ap (λ (j : ℕ). get_or (drop p xs ++ take p xs) j d) e ∙ get_or-append-add (drop p xs) (take p xs) (p + i - 128) d
          ∙ get_or-take p xs (p + i - 128) d l ∙ rw m

-- ## The used bytes that are met first

pub free_is : (b : ℕ) → is_free b ≡ true → b ≡ 255
unfolding is_free
free_is b h = eqb-true b 255 h

pub is_free_lem : (b : ℕ) → b ≡ 255 → is_free b ≡ true
unfolding is_free
is_free_lem b h = eq-eqb b 255 h

pub not_free : (b : ℕ) → (b ≡ 255 → ⊥) → is_free b ≡ false
unfolding is_free
not_free b h = ne_eqb b 255 h

pub used_is : (b : ℕ) → is_free b ≡ false → b ≡ 255 → ⊥
used_is b h e = false≢true (sym h ∙ is_free_lem b e)

-- how many used bytes come before a free one
abbrev pub front : List ℕ → ℕ
front ys = length (take_while is_used ys)

pub front_used : (ys : List ℕ) (i : ℕ) → i < front ys → get_or ys i 255 ≡ 255 → ⊥
unfolding take_while
front_used [] i h e = omega arith
front_used (y ∷ ys) zero h e = go (is_free y) refl h
  where
    go : (t : Bool) → is_free y ≡ t → 0 < length (cond (not t) (y ∷ take_while is_used ys) []) → ⊥
    go true z l = omega arith
    go false z l = used_is y z e
front_used (y ∷ ys) (suc i) h e = go (is_free y) h (λ l. front_used ys i l e)
  where
    go : (t : Bool) → suc i < length (cond (not t) (y ∷ take_while is_used ys) []) → (i < front ys → ⊥) → ⊥
    go true l f = omega arith
    go false l f = f (omega arith)

pub front_free : (ys : List ℕ) → front ys < length ys → get_or ys (front ys) 255 ≡ 255
unfolding take_while
front_free [] h = refl
front_free (y ∷ ys) h = go (is_free y) refl h (λ l. front_free ys l)
  where
    go :
        (t : Bool) → is_free y ≡ t → length (cond (not t) (y ∷ take_while is_used ys) []) < suc (length ys)
        → (front ys < length ys → get_or ys (front ys) 255 ≡ 255)
        → get_or (y ∷ ys) (length (cond (not t) (y ∷ take_while is_used ys) [])) 255 ≡ 255
    go true z l f = free_is y z
    go false z l f = f (omega arith)

-- there are no more of them than used bytes in all
pub front_few : (ys : List ℕ) → front ys ≤ count is_used ys
unfolding take_while count
front_few [] = omega arith
front_few (y ∷ ys) = go (is_free y) (front_few ys)
  where
    go : (t : Bool) → front ys ≤ count is_used ys → length (cond (not t) (y ∷ take_while is_used ys) []) ≤ cond (not t) 1 0 + count is_used ys
    go true h = omega arith
    go false h = omega arith

-- used bytes at the front are among them
pub used_few : (ys : List ℕ) (n : ℕ) → n ≤ length ys → ((i : ℕ) → i < n → get_or ys i 255 ≡ 255 → ⊥) → n ≤ front ys
unfolding take_while
used_few ys zero l h = omega arith
used_few [] (suc n) l h = omega arith
used_few (y ∷ ys) (suc n) l h =
    rw (not_free y (h 0 (omega arith))) (let f = used_few ys n (omega arith) (λ i k. h (suc i) (omega arith)) in omega arith)
