-- Laws of searches for an accessible of an accepted table, one for each way through a function. Assumes nothing.
use Rattle.std.specs.Prelude.{Option, Some, None}
use Prim.Native.Nat.{ℕ, ◌+◌, ◌%◌, ◌≤◌, ◌<◌}
use native.Mathlib.Omega.{arith}
use mathlib.Core.Path.{◌≡◌, refl, sym, ap, ap₂, ◌∙◌}
use mathlib.Core.Bool.{Bool, true, false, not, ◌&&◌}
use mathlib.Core.List.{List}
use lib.ListN.{length, get_or, take}
use lib.Seq.{length-take-le}
use borrow.Author.Tests.{lt-ltb, le-ltb, not-true, not-false}
use mir.Syntax.{w64}
use mir.Val.{Fits}
use Rattle.ascii.specs.Bytes.{same}
use Rattle.hash.specs.Hash.{start_place}
use Rattle.hash.proofs.Hashes.{start_low}
use Rattle.table.specs.Table.{Accessible}
use Rattle.table.specs.Layout.{table_of}
use Rattle.table.specs.Search.{Placed}
use Rattle.table.specs.Clauses.At.{bytes_of, Inside}
use Rattle.table.specs.declared.layout.Part.{Part}
use Rattle.report.specs.Judge.{table_number}
use Rattle.table.specs.declared.layout.Accessible as O
use Rattle.search.specs.Clauses.Left.{placed, name_of}
use Rattle.index.specs.Index.{around}
use Rattle.index.specs.Search as Index
use Rattle.index.specs.Search.{later, offered, looked, walked, searched}
use Rattle.index.specs.Accessibles.{accessibles, is_named, sought}
use Rattle.index.proofs.Around.{length_around}
use Rattle.index.proofs.Searches.{looked_few, walked_few}
use Rattle.index.proofs.Loops.{Looking, looking_found, looking_free, looking_more, looking_end}
use Rattle.index.proofs.Loops.{Walking, walking_start, walking_found, walking_more, walking_end}
use Rattle.seek.specs.declared.walk.Walk.{Walk}
use Rattle.seek.specs.declared.look.Sought.{Sought}
use Rattle.seek.specs.Clauses.Walk.{Passed, There, Begins, StepIs, NumberedIs}
use Rattle.seek.specs.Clauses.Seek.{FoundIs, Finds, Answers}
use Rattle.seek.proofs.Accepted.{accepted_few}

module _ {s : List ℕ} {o : Index.Sought (Placed Accessible)} {n : ℕ} where
  answer_nothing : o ≡ record { found = None; steps = n } → Answers s (record { found = None; steps = n }) o
  answer_nothing e = rw e record { finds = refl; steps = refl }

  answer_at :
      {a : O.Accessible} {v : Walk} {k : ℕ} (t : There s k a v) → o ≡ record { found = Some (k, placed s v.cursor t.it); steps = n }
      → Answers s (record { found = Some (a, v); steps = n }) o
  answer_at {a} {v} {k} t e = rw e record { finds = record { number = k; there = t; is = refl }; steps = refl }

-- whether an accessible that is there has both names, as the code compares them
module _ (s m a : List ℕ) (k : ℕ) (one : O.Accessible) (v : Walk) (there : There s k one v) (p : Part) (hp : p ≡ name_of one)
    (t : Bool) (ht : t ≡ (same m (bytes_of s v.cursor.name) && same a (bytes_of s p))) where
  passes : is_named m a (placed s v.cursor there.it) ≡ t
  passes = rw (there.named, ← hp) (sym ht)

-- ## An accessible that is offered

module _ (s m a : List ℕ) (k : ℕ) (r : Option (O.Accessible × Walk)) (h : NumberedIs s k r) where
  pub there_name : (one : O.Accessible) (v : Walk) → r ≡ Some (one, v) → (p : Part) → p ≡ name_of one → Inside s p
  there_name one v z p hp = rw hp (rw z at h).name

  pub there_home : (one : O.Accessible) (v : Walk) → r ≡ Some (one, v) → Inside s v.cursor.name
  there_home one v z = (rw z at h).passed.way.fits.name

  pub offered_none : r ≡ None → offered (is_named m a) (accessibles (table_of s)) k ≡ None
  unfolding offered
  offered_none z = rw (rw z at h)

  module _ (one : O.Accessible) (v : Walk) (z : r ≡ Some (one, v)) where
    there : There s k one v
    there = rw z at h

    module _ (p : Part) (hp : p ≡ name_of one) (t : Bool) (ht : t ≡ (same m (bytes_of s v.cursor.name) && same a (bytes_of s p))) where
      pub offered_other : not t ≡ true → offered (is_named m a) (accessibles (table_of s)) k ≡ None
      unfolding offered
      offered_other n = rw (there.is, passes s m a k one v there p hp t ht ∙ not-true t n)

      pub offered_it : not t ≡ false → FoundIs s one v (offered (is_named m a) (accessibles (table_of s)) k)
      unfolding offered
      offered_it n = record { number = k; there = there; is = rw (there.is, passes s m a k one v there p hp t ht ∙ not-false t n) }

-- ## Looking into an index

module _ (s m a xs : List ℕ) (start n q : ℕ) (c : Looking (is_named m a) (accessibles (table_of s)) xs start n q) where
  pub look_free :
      n < 128 → get_or xs q 0 ≡ 255
      → Answers s (record { found = None; steps = n + 1 }) (looked (is_named m a) (accessibles (table_of s)) (around start xs))
  look_free h e = answer_nothing (looking_free (is_named m a) (accessibles (table_of s)) xs start n q c h e)

  pub look_end :
      128 ≤ n → (k : ℕ) → k ≡ n → Answers s (record { found = None; steps = k }) (looked (is_named m a) (accessibles (table_of s)) (around start xs))
  look_end h k e = rw e (answer_nothing (looking_end (is_named m a) (accessibles (table_of s)) xs start n q c h))

  module _ (h : n < 128) (u : get_or xs q 0 ≡ 255 → ⊥) (r : Option (O.Accessible × Walk)) (hr : Finds s r (offered (is_named m a) (accessibles (table_of s)) (get_or xs q 0))) where
    pub look_found :
        (one : O.Accessible) (v : Walk) → r ≡ Some (one, v)
        → Answers s (record { found = Some (one, v); steps = n + 1 }) (looked (is_named m a) (accessibles (table_of s)) (around start xs))
    look_found one v z =
        let f : FoundIs s one v (offered (is_named m a) (accessibles (table_of s)) (get_or xs q 0)) = rw z at hr in
        answer_at f.there (looking_found (is_named m a) (accessibles (table_of s)) xs start n q c h u _ f.is)

    pub look_more : r ≡ None → Looking (is_named m a) (accessibles (table_of s)) xs start (n + 1) ((q + 1) % 128)
    look_more z = looking_more (is_named m a) (accessibles (table_of s)) xs start n q c h u (rw z at hr)

-- ## Walking over the accessibles

-- the walk w has passed accessibles in vain
pub record InVain (s m a : List ℕ) (w : Walk) : Type 0 where
  pub passed : Passed s w
  pub walking : Walking (is_named m a) (accessibles (table_of s)) w.accessibles

pub vain_start : (s m a : List ℕ) (w : Walk) → Begins s w → InVain s m a w
vain_start s m a w b = record { passed = b.passed; walking = rw b.none_yet (walking_start (is_named m a) (accessibles (table_of s))) }

pub vain_passed : (s m a : List ℕ) (w : Walk) → InVain s m a w → Passed s w
vain_passed s m a w c = c.passed

module _ (s m a : List ℕ) (w : Walk) (c : InVain s m a w) (r : Option (O.Accessible × Walk)) (h : StepIs s w r) where
  pub walk_end :
      r ≡ None → Answers s (record { found = None; steps = w.accessibles }) (walked (is_named m a) (accessibles (table_of s)))
  walk_end z = answer_nothing (walking_end (is_named m a) (accessibles (table_of s)) w.accessibles c.walking (rw z at h))

  module _ (one : O.Accessible) (v : Walk) (z : r ≡ Some (one, v)) where
    here : There s w.accessibles one v
    here = (rw z at h).there

    module _ (p : Part) (hp : p ≡ name_of one) (t : Bool) (ht : t ≡ (same m (bytes_of s v.cursor.name) && same a (bytes_of s p))) where
      pub walk_found :
          t ≡ true → Answers s (record { found = Some (one, v); steps = v.accessibles }) (walked (is_named m a) (accessibles (table_of s)))
      walk_found y =
          answer_at here
          (walking_found (is_named m a) (accessibles (table_of s)) w.accessibles c.walking _ here.is
          (passes s m a w.accessibles one v here p hp t ht ∙ y)
          ∙ ap (λ (n : ℕ). record { found = Some (w.accessibles, placed s v.cursor here.it); steps = n }) (sym here.after))

      pub walk_more : t ≡ false → InVain s m a v
      walk_more y =
          record {
            passed = here.passed;
            walking =
                rw here.after
                (walking_more (is_named m a) (accessibles (table_of s)) w.accessibles c.walking _ here.is
                (passes s m a w.accessibles one v here p hp t ht ∙ y));
          }

-- ## A whole search

pub start_fits : (m a : List ℕ) (n : ℕ) → n ≡ start_place m a → n < 128
start_fits m a n e = rw e (start_low m a)

module _
    (s index m a : List ℕ) (start : ℕ) (hs : start ≡ start_place m a) (r : Sought)
    (hr : Answers s r (looked (is_named m a) (accessibles (table_of s)) (around start index))) where
  -- what was looked at, and what the whole search is
  abbrev look : Index.Sought (Placed Accessible)
  look = looked (is_named m a) (accessibles (table_of s)) (around (start_place m a) index)

  abbrev whole : Index.Sought (Placed Accessible)
  whole = searched (is_named m a) (start_place m a) index (accessibles (table_of s))

  look_is : Answers s r look
  look_is = rw hs at hr

  -- a match among the bytes looked at ends it, and without one the walk follows
  unwalked : {k : ℕ × Placed Accessible} → look.found ≡ Some k → whole ≡ look
  unfolding searched
  unwalked e = rw e

  then_walked : look.found ≡ None → whole ≡ later look.steps (walked (is_named m a) (accessibles (table_of s)))
  unfolding searched
  then_walked e = rw e

  pub search_looked : (one : O.Accessible) (v : Walk) → r.found ≡ Some (one, v) → Answers s r whole
  search_looked one v e =
      let f : FoundIs s one v look.found = rw e at look_is.finds in
      rw (unwalked f.is) look_is

  module _ (w : Sought) (hw : Answers s w (walked (is_named m a) (accessibles (table_of s)))) where
    pub search_walked : r.found ≡ None → Answers s (record { found = w.found; steps = r.steps + w.steps }) whole
    search_walked e =
        rw (then_walked (rw e at look_is.finds)) record { finds = hw.finds; steps = ap₂ ◌+◌ look_is.steps hw.steps }

    pub search_fits : table_number s ≡ 0 → length index ≡ 128 → Fits w64 (r.steps + w.steps)
    search_fits g l =
        let x = looked_few (is_named m a) (accessibles (table_of s)) (around (start_place m a) index) in
        let y = rw (length_around (start_place m a) index, l) at x in
        let z = walked_few (is_named m a) (accessibles (table_of s)) in
        record { fits = omega (arith, look_is.steps, hw.steps, accepted_few s g) }

-- ## What is lent

pub part_size : (xs : List ℕ) → 128 ≤ length xs → length (take 128 xs) ≡ 128
part_size xs h = length-take-le 128 xs h

pub part_count : (xs : List ℕ) → 128 ≤ length xs → 128 ≡ length (take 128 xs)
part_count xs h = sym (part_size xs h)

module _ (s lent m a : List ℕ) (r : Sought) where
  pub sought_alone : length lent < 128 → Answers s r (walked (is_named m a) (accessibles (table_of s))) → Answers s r (sought (table_of s) lent m a)
  unfolding sought
  sought_alone h x = rw (lt-ltb (length lent) 128 h) x

  pub sought_with :
      128 ≤ length lent → Answers s r (searched (is_named m a) (start_place m a) (take 128 lent) (accessibles (table_of s)))
      → Answers s r (sought (table_of s) lent m a)
  unfolding sought
  sought_with h x = rw (le-ltb (length lent) 128 h) x
