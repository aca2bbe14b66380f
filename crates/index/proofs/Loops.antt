-- Laws of the loops that fill an index and search with one, whatever a table is: it has accessibles l, and each starts from a place. Assumes
-- nothing.
use Rattle.std.specs.Prelude.{Some, None, slice_get}
use Prim.Native.Nat.{ℕ, zero, suc, ◌+◌, ◌%◌, ◌≤◌, ◌<◌}
use native.Mathlib.Numerals.{add-one}
use native.Mathlib.Omega.{arith}
use mathlib.Core.Path.{◌≡◌, refl, sym, ap, ◌∙◌}
use mathlib.Core.Bool.{Bool, true, false, cond}
use mathlib.Core.List.{List, [], ◌∷◌, map}
use lib.ListN.{length, get_or, drop, length-set}
use Rattle.index.specs.Index.{is_free, empty, around, place_from, entered, filled_from, filled}
use Rattle.index.specs.Search.{Sought, ended, later, or_later, offered, looked, walked_from, walked}
use Rattle.index.proofs.Around.{is_free_lem, not_free}
use Rattle.index.proofs.Places.{At, at_start, at_next, at_drop, at_end}
use Rattle.table.proofs.Accessibles.{in_some}
use Rattle.table.proofs.Whole.{never}

module _ {A : Type 0} where
  -- the element at a number, and those after it
  drop_there : (l : List A) (i : ℕ) (x : A) → slice_get l i ≡ Some x → drop i l ≡ x ∷ drop (i + 1) l
  drop_there [] i x e = absurd (never e)
  drop_there (y ∷ l) zero x e = ap (λ (z : A). z ∷ l) (in_some e)
  drop_there (y ∷ l) (suc i) x e = drop_there l i x e ∙ rw (add-one, add-one)

  drop_past : (l : List A) (i : ℕ) → slice_get l i ≡ None → drop i l ≡ []
  drop_past [] zero e = refl
  drop_past [] (suc i) e = refl
  drop_past (y ∷ l) zero e = absurd (never (sym e))
  drop_past (y ∷ l) (suc i) e = drop_past l i e

  -- a step after n others
  later_step : (n : ℕ) (r : Sought A) → later n (later 1 r) ≡ later (n + 1) r
  later_step n r = ap (λ (k : ℕ). record { found = r.found; steps = k }) (omega arith)

  later_none : (r : Sought A) → r ≡ later 0 r
  later_none r = ap (λ (k : ℕ). record { found = r.found; steps = k }) (omega arith)

-- ## Filling

module _ {A : Type 0} (start_of : A → ℕ) (l : List A) where
  -- the first k accessibles are in the index xs
  pub record Filling (k : ℕ) (xs : List ℕ) : Type 0 where
    pub size : length xs ≡ 128
    pub rest : filled (map start_of l) ≡ filled_from k (map start_of (drop k l)) xs

  pub filling_start : (xs : List ℕ) → length xs ≡ 128 → xs ≡ empty → Filling 0 xs
  unfolding filled
  filling_start xs h e = record { size = h; rest = rw e }

  module _ (k : ℕ) (xs : List ℕ) (a : Filling k xs) where
    pub filling_more : (x : A) → slice_get l k ≡ Some x → (ys : List ℕ) → ys ≡ entered (start_of x) k xs → Filling (k + 1) ys
    unfolding filled_from entered
    filling_more x e ys z =
        record {
          size = ap length z ∙ length-set xs (place_from (start_of x) xs) k ∙ a.size;
          rest = a.rest ∙ rw (drop_there l k x e, add-one, z);
        }

    pub filling_end : slice_get l k ≡ None → xs ≡ filled (map start_of l)
    unfolding filled_from
    filling_end e = sym (a.rest ∙ rw (drop_past l k e))

-- ## Looking into an index

module _ {A : Type 0} (p : A → Bool) (l : List A) (xs : List ℕ) (start : ℕ) where
  -- a search that looked at n bytes in vain, and is at the place q
  pub record Looking (n q : ℕ) : Type 0 where
    pub at : At xs start n q
    pub rest : looked p l (around start xs) ≡ later n (looked p l (drop n (around start xs)))

  pub looking_start : length xs ≡ 128 → start < 128 → Looking 0 start
  looking_start h s = record { at = at_start xs start h s; rest = later_none (looked p l (around start xs)) }

  module _ (n q : ℕ) (a : Looking n q) where
    here :
        n < 128 → looked p l (around start xs)
        ≡ later n (cond (is_free (get_or xs q 0)) (ended None) (or_later (offered p l (get_or xs q 0)) (looked p l (drop (n + 1) (around start xs)))))
    unfolding looked
    here h = a.rest ∙ ap (λ (ys : List ℕ). later n (looked p l ys)) (at_drop xs start n q a.at h)

    pub looking_free : n < 128 → get_or xs q 0 ≡ 255 → looked p l (around start xs) ≡ record { found = None; steps = n + 1 }
    looking_free h e = here h ∙ rw (is_free_lem (get_or xs q 0) e)

    module _ (h : n < 128) (u : get_or xs q 0 ≡ 255 → ⊥) where
      pub looking_found : (k : ℕ × A) → offered p l (get_or xs q 0) ≡ Some k → looked p l (around start xs) ≡ record { found = Some k; steps = n + 1 }
      looking_found k e = here h ∙ rw (not_free (get_or xs q 0) u, e)

      pub looking_more : offered p l (get_or xs q 0) ≡ None → Looking (n + 1) ((q + 1) % 128)
      looking_more e =
          record {
            at = at_next xs start n q a.at h;
            rest = here h ∙ rw (not_free (get_or xs q 0) u, e) (later_step n _);
          }

    pub looking_end : 128 ≤ n → looked p l (around start xs) ≡ record { found = None; steps = n }
    unfolding looked
    looking_end h = a.rest ∙ rw (at_end xs start n q a.at h) (ap (λ (k : ℕ). record { found = None; steps = k }) (omega arith))

-- ## Walking over the accessibles

module _ {A : Type 0} (p : A → Bool) (l : List A) where
  -- a walk that passed n accessibles in vain
  pub record Walking (n : ℕ) : Type 0 where
    pub rest : walked p l ≡ later n (walked_from p n (drop n l))

  pub walking_start : Walking 0
  unfolding walked
  walking_start = record { rest = later_none (walked_from p 0 l) }

  module _ (n : ℕ) (a : Walking n) where
    module _ (x : A) (e : slice_get l n ≡ Some x) where
      there : walked p l ≡ later n (cond (p x) (ended (Some (n, x))) (later 1 (walked_from p (suc n) (drop (n + 1) l))))
      unfolding walked_from
      there = a.rest ∙ ap (λ (ys : List A). later n (walked_from p n ys)) (drop_there l n x e)

      pub walking_found : p x ≡ true → walked p l ≡ record { found = Some (n, x); steps = n + 1 }
      walking_found h = there ∙ rw h

      pub walking_more : p x ≡ false → Walking (n + 1)
      walking_more h = record { rest = there ∙ rw h (later_step n _ ∙ rw (← (add-one n))) }

    pub walking_end : slice_get l n ≡ None → walked p l ≡ record { found = None; steps = n }
    unfolding walked_from
    walking_end e = a.rest ∙ rw (drop_past l n e) (ap (λ (k : ℕ). record { found = None; steps = k }) (omega arith))
