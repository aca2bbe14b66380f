-- Laws of filling: one more accessible leaves an index good. Assumes nothing.
use Prim.Native.Nat.{ℕ, zero, suc, ◌+◌, ◌%◌, ◌≤◌, ◌<◌}
use native.Mathlib.Nat.{mod-lt}
use native.Mathlib.Numerals.{add-one}
use native.Mathlib.Omega.{arith}
use mathlib.Core.Path.{◌≡◌, refl, sym, ap, ◌∙◌}
use mathlib.Core.Bool.{Bool, true, false, not}
use mathlib.Core.List.{List, [], ◌∷◌, ◌++◌, append-nil}
use lib.Dec.{eqb, lit<}
use lib.ListN.{length, get_or, set, length-append, length-set, replicate, length-replicate, get_or-append}
use lib.Seq.{get_or-set_same, get_or-set_other, get_or-append_seam, append_snoc}
use borrow.Author.Tests.{eqb-true, eqb-false, eq-eqb, ne_eqb}
use Rattle.ascii.specs.Bytes.{count}
use Rattle.index.specs.Index.{is_used, empty, around, passed, place_from, entered, filled_from, filled}
use Rattle.index.specs.Theorems.{Met, Good, Places}
use Rattle.index.proofs.Around.{one, count_set, count_none, count_around, length_around, get_d_around}
use Rattle.index.proofs.Around.{is_free_lem, not_free, front_used, front_free, front_few}

-- two numbers are equal, or they are not
module _ {P : Type 0} (i j : ℕ) (equal : i ≡ j → P) (other : (i ≡ j → ⊥) → P) where
  pub by_equal : P
  by_equal = go (eqb i j) refl
    where
      go : (t : Bool) → eqb i j ≡ t → P
      go true e = equal (eqb-true i j e)
      go false e = other (eqb-false i j e)

-- ## One more accessible, which starts from p, in an index xs of less than 128

module _ (ps xs : List ℕ) (good : Good ps xs) (p : ℕ) (hp : p < 128) (few : length ps < 128) where
  size : length xs ≡ 128
  size = good.size

  passed_low : passed p xs < 128
  unfolding passed
  passed_low = let f = front_few (around p xs) in omega (arith, count_around is_used p xs, good.used)

  place_low : place_from p xs < 128
  unfolding place_from
  place_low = mod-lt (p + passed p xs) (lit< tt)

  -- the way to the place ends at a free byte
  place_met : get_or (around p xs) (passed p xs) 255 ≡ get_or xs (place_from p xs) 255
  unfolding place_from
  place_met = get_d_around xs size p (passed p xs) hp passed_low 255

  pub place_free : get_or xs (place_from p xs) 255 ≡ 255
  unfolding passed
  place_free =
      let h = passed_low in
      sym place_met ∙ front_free (around p xs) (rw (length_around p xs, size) h)

  -- what it holds after that
  abbrev after : List ℕ
  after = set xs (place_from p xs) (length ps)

  entered_there : get_or after (place_from p xs) 255 ≡ length ps
  entered_there = get_or-set_same xs (place_from p xs) (length ps) 255 (rw size place_low)

  entered_kept : (r : ℕ) → (get_or xs r 255 ≡ 255 → ⊥) → get_or after r 255 ≡ get_or xs r 255
  entered_kept r h = get_or-set_other xs (place_from p xs) r (length ps) 255 (λ e. h (ap (λ (i : ℕ). get_or xs i 255) e ∙ place_free))

  entered_size : length after ≡ 128
  entered_size = simp length-set size

  counted : (f : ℕ → Bool) → count f after + one f 255 ≡ count f xs + one f (length ps)
  counted f =
      let e = count_set f xs (place_from p xs) (length ps) (rw size place_low) in
      ap (λ (b : ℕ). count f after + one f b) (sym place_free) ∙ e

  numbers : (i : ℕ) → (get_or after i 255 ≡ 255 → ⊥) → get_or after i 255 < suc (length ps)
  numbers i h =
      by_equal i (place_from p xs) (λ e. rw (e, entered_there) (omega arith))
      (λ n.
      let s : get_or after i 255 ≡ get_or xs i 255 = get_or-set_other xs (place_from p xs) i (length ps) 255 n in
      let l = good.numbers i (λ e. h (s ∙ e)) in
      rw s (omega arith))

  once : (k : ℕ) → k < suc (length ps) → count (eqb k) after ≡ 1
  once k h = by_equal k (length ps) new old
    where
      c : count (eqb k) after + one (eqb k) 255 ≡ count (eqb k) xs + one (eqb k) (length ps)
      c = counted (eqb k)

      unmet : k ≡ length ps → (i : ℕ) → i < length xs → eqb k (get_or xs i 255) ≡ false
      unmet e i l = ne_eqb k (get_or xs i 255) (λ z. let b = good.numbers i (λ y. omega arith) in omega arith)

      new : k ≡ length ps → count (eqb k) after ≡ 1
      new e =
          let z = count_none (eqb k) xs (unmet e) in
          let d = rw (ne_eqb k 255 (omega arith), eq-eqb k (length ps) e, z) at c in
          omega arith

      old : (k ≡ length ps → ⊥) → count (eqb k) after ≡ 1
      old n =
          let z = good.once k (omega arith) in
          let d = rw (ne_eqb k 255 (omega arith), ne_eqb k (length ps) n, z) at c in
          omega arith

  used : count is_used after ≡ suc (length ps)
  used =
      let c = counted is_used in
      let d = rw (is_free_lem 255 refl, not_free (length ps) (omega arith), good.used) at c in
      omega arith

  -- a number that was met from q on is still met
  met_old : (q k : ℕ) → q < 128 → k < length ps → Met q k xs → Met q k after
  met_old q k hq hk m =
      let l : m.steps < 128 = omega (arith, m.within, size) in
      let there : get_or xs ((q + m.steps) % 128) 255 ≡ k = sym (get_d_around xs size q m.steps hq l 255) ∙ m.there in
      record {
        steps = m.steps;
        within = rw entered_size l;
        there = get_d_around after entered_size q m.steps hq l 255 ∙ entered_kept _ (λ e. omega arith) ∙ there;
        used = λ i h e.
            let j : i < 128 = omega arith in
            let u : get_or xs ((q + i) % 128) 255 ≡ 255 → ⊥ = λ z. m.used i h (get_d_around xs size q i hq j 255 ∙ z) in
            u (sym (entered_kept _ u) ∙ sym (get_d_around after entered_size q i hq j 255) ∙ e);
      }

  -- the number that was put in is met from p on
  met_new : Met p (length ps) after
  unfolding passed place_from
  met_new =
      record {
        steps = passed p xs;
        within = rw entered_size passed_low;
        there = get_d_around after entered_size p (passed p xs) hp passed_low 255 ∙ entered_there;
        used = λ i h e.
            let l = passed_low in
            let j : i < 128 = omega arith in
            let u : get_or xs ((p + i) % 128) 255 ≡ 255 → ⊥ = λ z. front_used (around p xs) i h (get_d_around xs size p i hp j 255 ∙ z) in
            u (sym (entered_kept _ u) ∙ sym (get_d_around after entered_size p i hp j 255) ∙ e);
      }

  pub good_more : Places ps → Good (ps ++ p ∷ []) (entered p (length ps) xs)
  unfolding entered
  good_more low =
      record {
        size = entered_size;
        once = λ k h. once k (rw length_more at h);
        numbers = λ i h. rw length_more (numbers i h);
        used = used ∙ sym length_more;
        met = λ k h. by_equal k (length ps) new (λ n. old k (omega (arith, rw length_more at h)));
      }
    where
      length_more : length (ps ++ p ∷ []) ≡ suc (length ps)
      length_more = length-append ps (p ∷ []) ∙ add-one (length ps)

      new : {k : ℕ} → k ≡ length ps → Met (get_or (ps ++ p ∷ []) k 0) k after
      new e = rw (e, get_or-append_seam ps p [] 0) met_new

      old : (k : ℕ) → k < length ps → Met (get_or (ps ++ p ∷ []) k 0) k after
      old k h = rw (get_or-append ps (p ∷ []) 0 k h) (met_old (get_or ps k 0) k (low k h) h (good.met k h))

-- ## All accessibles

places_more : (ps : List ℕ) (p : ℕ) → Places ps → p < 128 → Places (ps ++ p ∷ [])
places_more ps p low h i l = by_equal i (length ps) new (λ n. old (omega (arith, length-append ps (p ∷ []), l, n)))
  where
    new : i ≡ length ps → get_or (ps ++ p ∷ []) i 0 < 128
    new e = rw (e, get_or-append_seam ps p [] 0) h

    old : i < length ps → get_or (ps ++ p ∷ []) i 0 < 128
    old k = rw (get_or-append ps (p ∷ []) 0 i k) (low i k)

good_on :
    (qs ps xs : List ℕ) → Good ps xs → Places ps → Places qs → length ps + length qs ≤ 128 → Good (ps ++ qs) (filled_from (length ps) qs xs)
unfolding filled_from
good_on [] ps xs g low more few = rw append-nil g
good_on (q ∷ qs) ps xs g low more few =
    let h : length ps < 128 = omega arith in
    let l : q < 128 = more 0 (omega arith) in
    let e : length (ps ++ q ∷ []) ≡ suc (length ps) = length-append ps (q ∷ []) ∙ add-one (length ps) in
    let on = good_on qs (ps ++ q ∷ []) (entered q (length ps) xs) (good_more ps xs g q l h low) (places_more ps q low l) in
    let r = on (λ i k. more (suc i) (omega arith)) (omega arith) in
    rw (e, append_snoc) at r

all_free : (n i : ℕ) → ◌≡◌ {A = ℕ} (get_or (replicate n 255) i 255) 255
all_free zero i = refl
all_free (suc n) zero = refl
all_free (suc n) (suc i) = all_free n i

good_empty : Good [] empty
unfolding empty
good_empty =
    record {
      size = length-replicate {A = ℕ} 128 255;
      once = λ k h. absurd (omega arith);
      numbers = λ i h. absurd (h (all_free 128 i));
      used = count_none is_used (replicate 128 255) (λ i h. ap not (is_free_lem _ (all_free 128 i)));
      met = λ k h. absurd (omega arith);
    }

pub filled_good : (ps : List ℕ) → Places ps → length ps ≤ 128 → Good ps (filled ps)
unfolding filled
filled_good ps low few = good_on ps [] empty good_empty (λ i h. absurd (omega arith)) low (omega arith)

from_length : (k : ℕ) (ps xs : List ℕ) → length (filled_from k ps xs) ≡ length xs
unfolding filled_from entered
from_length k [] xs = refl
from_length k (p ∷ ps) xs = from_length (suc k) ps (entered p k xs) ∙ length-set xs (place_from p xs) k

pub filled_length : (ps : List ℕ) → length (filled ps) ≡ 128
unfolding filled empty
filled_length ps = from_length 0 ps empty ∙ length-replicate {A = ℕ} 128 255

-- within a list it does not matter what stands past its end
get_d_else : (xs : List ℕ) (i d e : ℕ) → i < length xs → get_or xs i d ≡ get_or xs i e
get_d_else [] i d e h = absurd (omega arith)
get_d_else (x ∷ xs) zero d e h = refl
get_d_else (x ∷ xs) (suc i) d e h = get_d_else xs i d e (omega arith)

pub filled_room : (ps : List ℕ) (p : ℕ) → Places ps → length ps < 128 → p < 128 → get_or (filled ps) (place_from p (filled ps)) 0 ≡ 255
filled_room ps p low few hp =
    let g = filled_good ps low (omega arith) in
    get_d_else (filled ps) (place_from p (filled ps)) 0 255 (rw g.size (place_low ps (filled ps) g p hp few))
    ∙ place_free ps (filled ps) g p hp few
