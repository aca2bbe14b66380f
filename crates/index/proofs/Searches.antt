-- Laws of searches: what is found, and in how many steps. Assumes nothing.
use Rattle.std.specs.Prelude.{Option, Some, None, slice_get}
use Prim.Native.Nat.{ℕ, zero, suc, ◌+◌, ◌≤◌, ◌<◌}
use native.Mathlib.Omega.{arith}
use mathlib.Core.Path.{◌≡◌, refl, sym, ap, ap₂, subst, ◌∙◌}
use mathlib.Core.Bool.{Bool, true, false, cond}
use mathlib.Core.List.{List, [], ◌∷◌, map}
use lib.ListN.{length, get_or, length-map}
use Rattle.ascii.specs.Bytes.{◌>>=◌, is_some}
use Rattle.index.specs.Index.{is_free, is_used, around, filled}
use Rattle.table.specs.Search.{first_from, first}
use Rattle.table.proofs.Accessibles.{in_some}
use Rattle.table.proofs.Whole.{never}
use Rattle.table.proofs.Search.{first_there, first_passes}
use Rattle.index.specs.Search.{Sought, ended, later, or_later, offered, looked, walked_from, walked, or_else, searched}
use Rattle.index.specs.Theorems.{Met, Good, Places, Unique, Served}
use Rattle.index.proofs.Around.{count_around, length_around, not_free, front_few, used_few}
use Rattle.index.proofs.Fills.{by_equal, filled_good}

module _ {A : Type 0} where
  pub there_within : (l : List A) (i : ℕ) (x : A) → slice_get l i ≡ Some x → i < length l
  there_within [] i x e = absurd (never e)
  there_within (y ∷ l) zero x e = omega arith
  there_within (y ∷ l) (suc i) x e = let h = there_within l i x e in omega arith

module _ {A : Type 0} (p : A → Bool) where
  -- ## An accessible that passes stands at its number

  -- k, with its number, is one of l and passes
  pub record Meant (l : List A) (k : ℕ × A) : Type 0 where
    pub there : slice_get l k.0 ≡ Some k.1
    pub passes : p k.1 ≡ true

  offered_is : (l : List A) (b : ℕ) (x : A) → slice_get l b ≡ Some x → p x ≡ true → offered p l b ≡ Some (b, x)
  unfolding offered
  offered_is l b x e h = rw (e, h)

  pub offered_meant : (l : List A) (b : ℕ) (k : ℕ × A) → offered p l b ≡ Some k → Meant l k × (k.0 ≡ b)
  unfolding offered
  offered_meant l b k e = go (slice_get l b) refl e
    where
      go : (o : Option A) → slice_get l b ≡ o → (o >>= λ x. cond (p x) (Some (b, x)) None) ≡ Some k → Meant l k × (k.0 ≡ b)
      go None z e = absurd (never e)
      go (Some x) z e = pick (p x) refl e
        where
          pick : (t : Bool) → p x ≡ t → cond t (Some (b, x)) None ≡ Some k → Meant l k × (k.0 ≡ b)
          pick true h e =
              let q : (b, x) ≡ k = in_some e in
              let there = subst (λ (y : ℕ × A). slice_get l y.0 ≡ Some y.1) q z in
              let passes = subst (λ (y : ℕ × A). p y.1 ≡ true) q h in
              (record { there = there; passes = passes }, ap (λ (y : ℕ × A). y.0) (sym q))
          pick false h e = absurd (never e)

  looked_meant : (l : List A) (bs : List ℕ) (k : ℕ × A) → (looked p l bs).found ≡ Some k → Meant l k
  unfolding looked
  looked_meant l [] k e = absurd (never e)
  looked_meant l (b ∷ bs) k e = go (is_free b) e (looked_meant l bs k)
    where
      go :
          (t : Bool) → (cond t (ended None) (or_later (offered p l b) (looked p l bs))).found ≡ Some k
          → ((looked p l bs).found ≡ Some k → Meant l k) → Meant l k
      go true e f = absurd (never e)
      go false e f = pick (offered p l b) refl e
        where
          pick : (o : Option (ℕ × A)) → offered p l b ≡ o → (or_later o (looked p l bs)).found ≡ Some k → Meant l k
          pick None z e = f e
          pick (Some y) z e = (offered_meant l b k (z ∙ e)).0

  -- so does one that is found without an index
  pub first_meant : (l : List A) (k : ℕ × A) → first p l ≡ Some k → Meant l k
  first_meant l k e = record { there = first_there p l k e; passes = first_passes p l k e }

  -- where nothing is found, nothing passes
  first_none : (n : ℕ) (l : List A) (i : ℕ) (x : A) → first_from p n l ≡ None → slice_get l i ≡ Some x → p x ≡ true → ⊥
  unfolding first_from
  first_none n [] i x e z h = never z
  first_none n (y ∷ l) zero x e z h =
      let q : p y ≡ true = ap p (in_some z) ∙ h in
      never (sym (rw q at e))
  first_none n (y ∷ l) (suc i) x e z h = go (p y) e (λ d. first_none (suc n) l i x d z h)
    where
      go : (t : Bool) → cond t (Some (n, y)) (first_from p (suc n) l) ≡ None → (first_from p (suc n) l ≡ None → ⊥) → ⊥
      go true e f = never (sym e)
      go false e f = f e

  -- ## The answer

  walk_first : (n : ℕ) (l : List A) → (walked_from p n l).found ≡ first_from p n l
  unfolding walked_from first_from
  walk_first n [] = refl
  walk_first n (x ∷ l) = go (p x) (walk_first (suc n) l)
    where
      go :
          (t : Bool) → (walked_from p (suc n) l).found ≡ first_from p (suc n) l
          → (cond t (ended (Some (n, x))) (later 1 (walked_from p (suc n) l))).found ≡ cond t (Some (n, x)) (first_from p (suc n) l)
      go true e = refl
      go false e = e

  pub walked_first : (l : List A) → (walked p l).found ≡ first p l
  unfolding walked first
  walked_first l = walk_first 0 l

  -- one that is meant is what is found without an index
  pub meant_first : (l : List A) → Unique p l → (k : ℕ × A) → Meant l k → first p l ≡ Some k
  unfolding first
  meant_first l u k m = go (first p l) refl
    where
      go : (o : Option (ℕ × A)) → first p l ≡ o → first p l ≡ Some k
      go None e = absurd (first_none 0 l k.0 k.1 e m.there m.passes)
      go (Some j) e =
          let f = first_meant l j e in
          let n : j.0 ≡ k.0 = u.one j.0 k.0 j.1 k.1 f.there m.there f.passes m.passes in
          let y : j.1 ≡ k.1 = in_some (sym f.there ∙ ap (slice_get l) n ∙ m.there) in
          e ∙ ap₂ (λ (a : ℕ) (b : A). Some (a, b)) n y

  -- an index, whatever it holds, alters no answer
  pub searched_first : (start : ℕ) (index : List ℕ) (l : List A) → Unique p l → (searched p start index l).found ≡ first p l
  unfolding searched walked first
  searched_first start index l u = go (looked p l (around start index)).found refl
    where
      go :
          (o : Option (ℕ × A)) → (looked p l (around start index)).found ≡ o
          → (or_else (looked p l (around start index)) (walked_from p 0 l)).found ≡ first_from p 0 l
      go None e = rw e (walk_first 0 l)
      go (Some k) e = rw e (sym (meant_first l u k (looked_meant l (around start index) k e)))

  -- ## The steps

  pub looked_few : (l : List A) (bs : List ℕ) → (looked p l bs).steps ≤ length bs
  unfolding looked
  looked_few l [] = omega arith
  looked_few l (b ∷ bs) = go (is_free b) (offered p l b) (looked_few l bs)
    where
      go : (t : Bool) (o : Option (ℕ × A)) → (looked p l bs).steps ≤ length bs → (cond t (ended None) (or_later o (looked p l bs))).steps ≤ suc (length bs)
      go true o h = omega arith
      go false None h = omega arith
      go false (Some k) h = omega arith

  walk_few : (n : ℕ) (l : List A) → (walked_from p n l).steps ≤ length l
  unfolding walked_from
  walk_few n [] = omega arith
  walk_few n (x ∷ l) = go (p x) (walk_few (suc n) l)
    where
      go : (t : Bool) → (walked_from p (suc n) l).steps ≤ length l → (cond t (ended (Some (n, x))) (later 1 (walked_from p (suc n) l))).steps ≤ suc (length l)
      go true h = omega arith
      go false h = omega arith

  pub walked_few : (l : List A) → (walked p l).steps ≤ length l
  unfolding walked
  walked_few l = walk_few 0 l

  -- a look at each byte and a walk past each accessible, at most
  pub searched_few : (start : ℕ) (index : List ℕ) (l : List A) → (searched p start index l).steps ≤ length index + length l
  unfolding searched
  searched_few start index l = go (is_some (looked p l (around start index)).found)
    where
      a : (looked p l (around start index)).steps ≤ length index
      a = rw (length_around start index) at (looked_few l (around start index))

      go : (t : Bool) → (cond t (looked p l (around start index)) (later (looked p l (around start index)).steps (walked p l))).steps ≤ length index + length l
      go true = omega (arith, a)
      go false = omega (arith, a, walked_few l)

  -- ## A present name and a filled index

  -- k is found in its way: the search ends no sooner, since nothing else is meant, and no later
  record Ends (k : ℕ × A) (n : ℕ) (r : Sought A) : Type 0 where
    pub found : r.found ≡ Some k
    pub few : r.steps ≤ n

  looked_met :
      (l : List A) → Unique p l → (k : ℕ × A) → Meant l k → (ys : List ℕ) (n : ℕ) → n < length ys → get_or ys n 255 ≡ k.0
      → ((i : ℕ) → i < suc n → get_or ys i 255 ≡ 255 → ⊥) → Ends k (suc n) (looked p l ys)
  unfolding looked
  looked_met l u k m [] n h e w = absurd (omega arith)
  looked_met l u k m (y ∷ ys) zero h e w =
      rw (not_free y (w 0 (omega arith)), e, offered_is l k.0 k.1 m.there m.passes) record { found = refl; few = omega arith }
  looked_met l u k m (y ∷ ys) (suc n) h e w =
      rw (not_free y (w 0 (omega arith)))
      (go (offered p l y) refl (looked_met l u k m ys n (omega arith) e (λ i j. w (suc i) (omega arith))))
    where
      go : (o : Option (ℕ × A)) → offered p l y ≡ o → Ends k (suc n) (looked p l ys) → Ends k (suc (suc n)) (or_later o (looked p l ys))
      go None z r = let f = r.few in record { found = r.found; few = omega arith }
      go (Some j) z r =
          record { found = sym (meant_first l u j (offered_meant l y j z).0) ∙ meant_first l u k m; few = omega arith }

  module _ (start_of : A → ℕ) where
    start_there : (l : List A) (i : ℕ) (x : A) → slice_get l i ≡ Some x → get_or (map start_of l) i 0 ≡ start_of x
    start_there [] i x e = absurd (never e)
    start_there (y ∷ l) zero x e = ap start_of (in_some e)
    start_there (y ∷ l) (suc i) x e = start_there l i x e

    starts_low : ((x : A) → start_of x < 128) → (l : List A) → Places (map start_of l)
    starts_low low [] i h = absurd (omega arith)
    starts_low low (x ∷ l) zero h = low x
    starts_low low (x ∷ l) (suc i) h = starts_low low l i (omega arith)

    module _ (l : List A) (u : Unique p l) (few : length l ≤ 128) (low : (x : A) → start_of x < 128) (k : ℕ × A) (m : Meant l k) where
      abbrev index : List ℕ
      index = filled (map start_of l)

      good : Good (map start_of l) index
      good = filled_good (map start_of l) (starts_low low l) (rw (length-map l start_of) few)

      number : k.0 < length l
      number = there_within l k.0 k.1 m.there

      met : Met (start_of k.1) k.0 index
      met =
          let h : k.0 < length (map start_of l) = rw (length-map l start_of) number in
          rw (start_there l k.0 k.1 m.there) at (good.met k.0 h)

      way : (i : ℕ) → i < suc met.steps → get_or (around (start_of k.1) index) i 255 ≡ 255 → ⊥
      way i h =
          by_equal i met.steps (λ z e. omega (arith, number, met.there, ap (λ (j : ℕ). get_or (around (start_of k.1) index) j 255) z))
          (λ n. met.used i (omega arith))

      within : met.steps < length (around (start_of k.1) index)
      within = rw (length_around (start_of k.1) index) met.within

      ends : Ends k (suc met.steps) (looked p l (around (start_of k.1) index))
      ends = looked_met l u k m (around (start_of k.1) index) met.steps within met.there way

      short : suc met.steps ≤ length l
      short =
          let a = used_few (around (start_of k.1) index) (suc met.steps) within way in
          let b = front_few (around (start_of k.1) index) in
          omega (arith, count_around is_used (start_of k.1) index, good.used, length-map l start_of)

      unwalked : searched p (start_of k.1) index l ≡ looked p l (around (start_of k.1) index)
      unfolding searched
      unwalked = rw ends.found

      served : Served p l (start_of k.1) index k
      served =
          record {
            found = rw unwalked ends.found;
            unwalked = unwalked;
            few = rw unwalked (let a = ends.few in let b = short in omega arith);
          }

    -- an accessible that is there is served by the index that is filled from the table
    pub filled_served :
        (l : List A) → Unique p l → length l ≤ 128 → ((x : A) → start_of x < 128) → (k : ℕ × A) → first p l ≡ Some k
        → Served p l (start_of k.1) (filled (map start_of l)) k
    filled_served l u few low k e = served l u few low k (first_meant l k e)
