-- Laws of the bytes of an index, met from a place on, round the end. Assumes nothing.
use Prim.Native.Nat.{ℕ, ◌+◌, ◌%◌, ◌≤◌, ◌<◌}
use native.Mathlib.Nat.{mod-lt}
use native.Mathlib.Numerals.{add-one}
use native.Mathlib.Omega.{arith}
use mathlib.Core.Path.{◌≡◌, ◌∙◌}
use mathlib.Core.List.{List, [], ◌∷◌}
use lib.Dec.{lit<}
use lib.ListN.{length, get_or, drop, set, drop_of_length-le}
use lib.Seq.{drop-cons}
use Rattle.ascii.specs.Bytes.{take_while}
use Rattle.index.specs.Index.{around, passed, place_from, entered}
use Rattle.index.proofs.Around.{length_around, get_d_around, is_free_lem, not_free, front}

-- ## The bytes from a place on

-- the place p is met after n bytes from the place start on
pub record At (xs : List ℕ) (start n p : ℕ) : Type 0 where
  pub size : length xs ≡ 128
  pub from : start < 128
  pub within : n ≤ 128
  pub is : p ≡ (start + n) % 128

pub at_start : (xs : List ℕ) (start : ℕ) → length xs ≡ 128 → start < 128 → At xs start 0 start
at_start xs start h l = record { size = h; from = l; within = omega arith; is = omega arith }

module _ (xs : List ℕ) (start n p : ℕ) (a : At xs start n p) where
  pub at_low : p < 128
  at_low = rw a.is (mod-lt (start + n) (lit< tt))

  pub at_next : n < 128 → At xs start (n + 1) ((p + 1) % 128)
  at_next h =
      let e = a.is in
      record { size = a.size; from = a.from; within = omega arith; is = omega arith }

  -- the byte there
  pub at_byte : (d : ℕ) → n < 128 → get_or (around start xs) n d ≡ get_or xs p d
  at_byte d h = get_d_around xs a.size start n a.from h d ∙ rw a.is

  pub at_drop : n < 128 → drop n (around start xs) ≡ get_or xs p 0 ∷ drop (n + 1) (around start xs)
  at_drop h =
      drop-cons (around start xs) n 0 (rw (length_around start xs, a.size) h) ∙ rw (at_byte 0 h, add-one)

  pub at_end : 128 ≤ n → drop n (around start xs) ≡ []
  at_end h =
      let l : length (around start xs) ≤ n = rw (length_around start xs, a.size) h in
      drop_of_length-le (around start xs) l

-- ## Used bytes passed

-- the first n bytes from the place start on, up to the place p, are used
pub record Passed (xs : List ℕ) (start n p : ℕ) : Type 0 where
  pub at : At xs start n p
  pub rest : passed start xs ≡ n + front (drop n (around start xs))

pub passed_start : (xs : List ℕ) (start : ℕ) → length xs ≡ 128 → start < 128 → Passed xs start 0 start
unfolding passed
passed_start xs start h l = record { at = at_start xs start h l; rest = omega arith }

module _ (xs : List ℕ) (start n p : ℕ) (a : Passed xs start n p) where
  pub passed_low : p < 128
  passed_low = at_low xs start n p a.at

  pub passed_more : n < 128 → (get_or xs p 0 ≡ 255 → ⊥) → Passed xs start (n + 1) ((p + 1) % 128)
  unfolding take_while
  passed_more h u =
      record {
        at = at_next xs start n p a.at h;
        rest = a.rest ∙ rw (at_drop xs start n p a.at h, not_free _ u) (omega arith);
      }

  pub passed_stop : n < 128 → get_or xs p 0 ≡ 255 → p ≡ place_from start xs
  unfolding take_while place_from
  passed_stop h f =
      let e : passed start xs ≡ n = a.rest ∙ rw (at_drop xs start n p a.at h, is_free_lem _ f) (omega arith) in
      a.at.is ∙ rw e

  pub passed_end : 128 ≤ n → p ≡ place_from start xs
  unfolding take_while place_from
  passed_end h =
      let e : passed start xs ≡ n = a.rest ∙ rw (at_end xs start n p a.at h) (omega arith) in
      a.at.is ∙ rw e

-- ## One more accessible

module _ (xs : List ℕ) (start p : ℕ) (e : p ≡ place_from start xs) where
  pub place_within : length xs ≡ 128 → p < length xs
  unfolding place_from
  place_within h = rw (h, e) (mod-lt (start + passed start xs) (lit< tt))

  pub place_entered : (k : ℕ) → set xs p k ≡ entered start k xs
  unfolding entered
  place_entered k = rw e
