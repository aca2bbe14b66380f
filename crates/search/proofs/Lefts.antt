-- Laws of what is left of a table's accessibles at a cursor, one for each way through a function that reads a record. Assumes nothing.
use Rattle.std.specs.Prelude.{Option, Some, None}
use Prim.Native.Nat.{ℕ, zero, suc, ◌+◌, ◌-◌, ◌≤◌, ◌<◌}
use native.Mathlib.Numerals.{add-one}
use native.Mathlib.Omega.{arith}
use mathlib.Core.Path.{◌≡◌, refl, sym, ap, ◌∙◌}
use mathlib.Core.Bool.{Bool, true, false, cond, not, false≢true}
use mathlib.Core.List.{List, [], ◌∷◌, ◌++◌, map}
use lib.ListN.{length, drop}
use lib.Dec.{eqb}
use borrow.Author.Tests.{eq-eqb, ne_eqb, not-true, not-false}
use Rattle.ascii.specs.Text.{bytes}
use Rattle.ascii.specs.Bytes.{◌>>=◌, is_some, after}
use Rattle.ascii.specs.Clauses.Reader.{rest}
use Rattle.table.specs.Table as Table
use Rattle.table.specs.Layout.{begins, accessibles_at, modules_at, Readable, table_of}
use Rattle.table.specs.Search.{Placed, placed_from, parameters_of, commands_of, parameters, commands}
use Rattle.table.specs.declared.layout.ParameterAt.{ParameterAt}
use Rattle.table.specs.declared.layout.CommandAt.{CommandAt}
use Rattle.table.specs.declared.layout.Accessible as A
use Rattle.table.specs.declared.layout.ModuleAt.{ModuleAt}
use Rattle.table.specs.declared.layout.HeadAt.{HeadAt}
use Rattle.table.specs.Clauses.At.{bytes_of, texts_at, accessible_begins, accessible_at, accessibles_from, AccessibleIs, heading_at, module_of, HeadingIs, modules_from, HeadRead}
use Rattle.table.proofs.Accessibles.{in_some}
use Rattle.table.proofs.Enough.{before, accessibles_stop, accessibles_more, accessible_less, modules_stop, modules_more, heading_less}
use Rattle.table.proofs.Modules.{with_them, with_accessibles, module_as, module_is, head_within, less}
use Rattle.table.proofs.Whole.{Opened, opened, unread, readable_whole, never}
use Rattle.search.specs.declared.cursor.Cursor.{Cursor}
use Rattle.search.specs.Clauses.Left.{follows, accessibles_left, placed, left_from, accessibles_of, Fits, HomeIs, OnWay, After, FirstIs, Ended, ParameterFirst, CommandFirst, ModuleFirst, FirstCursor}

-- ## Lists

module _ {A : Type 0} where
  drop_more : (n : ℕ) (l : List A) (x : A) (xs : List A) → drop n l ≡ x ∷ xs → drop (suc n) l ≡ xs
  drop_more zero [] x xs e = let z : ◌≡◌ {A = ℕ} 0 1 = cc in absurd (omega arith)
  drop_more zero (y ∷ l) x xs e = cc
  drop_more (suc n) [] x xs e = let z : ◌≡◌ {A = ℕ} 0 1 = cc in absurd (omega arith)
  drop_more (suc n) (y ∷ l) x xs e = drop_more n l x xs e

  pub drop_next : (n : ℕ) (l : List A) (x : A) (xs : List A) → drop n l ≡ x ∷ xs → drop (n + 1) l ≡ xs
  drop_next n l x xs e = rw (add-one n) (drop_more n l x xs e)

-- a first element that was read before others
pub record Split {A : Type 0} (a : A) (o : Option (List A × List ℕ)) (l : List A) (x : List ℕ) : Type 0 where
  pub others : List A
  pub are : o ≡ Some (others, x)
  pub is : l ≡ a ∷ others

pub split : {A : Type 0} (a : A) (o : Option (List A × List ℕ)) (l : List A) (x : List ℕ) → before a o ≡ Some (l, x) → Split a o l x
split a None l x e = absurd (never e)
split {A} a (Some q) l x e =
    let y : a ∷ q.0 ≡ l = ap (λ (z : List A × List ℕ). z.0) (in_some e) in
    let z : q.1 ≡ x = ap (λ (z : List A × List ℕ). z.1) (in_some e) in
    record { others = q.0; are = ap (λ (w : List ℕ). Some (q.0, w)) z; is = sym y }

-- ## Whether an accessible is next

module _ (s : List ℕ) (c : Cursor) where
  pub next_none : c.modules ≡ 0 → not (eqb c.modules 0) ≡ follows s c
  unfolding follows
  next_none e = rw (eq-eqb c.modules 0 e)

  pub next_some : (c.modules ≡ 0 → ⊥) → (b : Bool) → b ≡ accessible_begins (drop c.at s) → b ≡ follows s c
  unfolding follows
  next_some n b e = rw (ne_eqb c.modules 0 n) e

-- as the code asks for it
module _ (s : List ℕ) (c : Cursor) (b : Bool) (h : b ≡ follows s c) where
  pub not_next : not b ≡ true → follows s c ≡ false
  not_next e = sym h ∙ not-true b e

  pub so_next : not b ≡ false → follows s c ≡ true
  so_next e = sym h ∙ not-false b e

-- what is known where an accessible is next
record Next (s : List ℕ) (c : Cursor) : Type 0 where
  pub begins : accessible_begins (drop c.at s) ≡ true
  pub tested : eqb c.modules 0 ≡ false
  pub begun : 0 < c.modules

is_next_lem : (s : List ℕ) (c : Cursor) → follows s c ≡ true → Next s c
unfolding follows
is_next_lem s c e = go (eqb c.modules 0) refl e
  where
    some_of : (n : ℕ) → eqb n 0 ≡ false → 0 < n
    some_of zero z = absurd (false≢true (sym z))
    some_of (suc n) z = omega arith

    go : (b : Bool) → eqb c.modules 0 ≡ b → cond b false (accessible_begins (drop c.at s)) ≡ true → Next s c
    go true z e = absurd (false≢true e)
    go false z e = record { begins = e; tested = z; begun = some_of c.modules z }

left_none : (s : List ℕ) (c : Cursor) → follows s c ≡ false → accessibles_left s c ≡ Some ([], drop c.at s)
unfolding follows accessibles_left
left_none s c e = go (eqb c.modules 0) e
  where
    go : (b : Bool) → cond b false (accessible_begins (drop c.at s)) ≡ false → cond b (Some ([], drop c.at s)) (accessibles_from s c.at) ≡ Some ([], drop c.at s)
    go true e = refl
    go false e = accessibles_stop s c.at e

left_more : (s : List ℕ) (c : Cursor) → follows s c ≡ true → accessibles_left s c ≡ (accessible_at (length s) (drop c.at s) >>= λ p. before p.0 (accessibles_at (length s) (length p.1) p.1))
unfolding accessibles_left
left_more s c f = let n = is_next_lem s c f in rw n.tested (accessibles_more s c.at n.begins)

-- ## What is left

module _ {A : Type 0} (of : List Table.Accessible → List A) (s : List ℕ) (c : Cursor) where
  -- the modules that follow a module's accessibles xs, and what is left with them
  abbrev pub with_modules : List Table.Accessible → Option (List Table.Module × List ℕ) → Option (List (Placed A))
  with_modules xs o = o >>= λ y. Some (map (placed s c) (of xs) ++ placed_from of c.modules y.0)

  abbrev pub with_rest : Option (List Table.Accessible × List ℕ) → Option (List (Placed A))
  with_rest o = o >>= λ x. with_modules x.0 (modules_at (length s) (length x.1) x.1)

  pub left_as : left_from of s c ≡ with_rest (accessibles_left s c)
  unfolding left_from
  left_as = refl

-- all that is left on the way
abbrev pub whole : (s : List ℕ) (c : Cursor) → OnWay s c → List (Placed Table.Accessible)
whole s c h = map (placed s c) h.own ++ placed_from accessibles_of c.modules (drop c.modules (table_of s).modules)

pub way_left : (s : List ℕ) (c : Cursor) (h : OnWay s c) → left_from accessibles_of s c ≡ Some (whole s c h)
way_left s c h = left_as accessibles_of s c ∙ rw (h.reads, h.follow)

-- the same in the latest module, from position j on
abbrev pub moved : Cursor → ℕ → Cursor
moved c j = record { at = j; modules = c.modules; name = c.name }

module _ (s : List ℕ) (c : Cursor) (f : follows s c ≡ true) (a : Table.Accessible) (j : ℕ) (e : accessible_at (length s) (drop c.at s) ≡ Some (a, drop j s)) where
  n : Next s c
  n = is_next_lem s c f

  left_one : accessibles_left s c ≡ before a (accessibles_from s j)
  left_one = left_more s c f ∙ rw e

  left_moved : accessibles_left s (moved c j) ≡ accessibles_from s j
  unfolding accessibles_left
  left_moved = rw n.tested

  past_begins : (l : List (Placed Table.Accessible)) → left_from accessibles_of s c ≡ Some l → FirstIs accessibles_of s c (moved c j) a
  past_begins l w = go (accessibles_from s j) refl (sym (left_as accessibles_of s c ∙ ap (with_rest accessibles_of s c) left_one) ∙ w)
    where
      second : (xs : List Table.Accessible) (r : List ℕ) → accessibles_from s j ≡ Some (xs, r) → (o : Option (List Table.Module × List ℕ)) → modules_at (length s) (length r) r ≡ o → with_modules accessibles_of s c (a ∷ xs) o ≡ Some l → FirstIs accessibles_of s c (moved c j) a
      second xs r u None v z = absurd (never z)
      second xs r u (Some y) v z =
          record {
            others = map (placed s c) xs ++ placed_from accessibles_of c.modules y.0;
            is = w ∙ sym z;
            left = left_as accessibles_of s (moved c j) ∙ ap (with_rest accessibles_of s (moved c j)) (left_moved ∙ u) ∙ ap (with_modules accessibles_of s (moved c j) xs) v;
          }

      go : (o : Option (List Table.Accessible × List ℕ)) → accessibles_from s j ≡ o → with_rest accessibles_of s c (before a o) ≡ Some l → FirstIs accessibles_of s c (moved c j) a
      go None u z = absurd (never z)
      go (Some x) u z = second x.0 x.1 u (modules_at (length s) (length x.1) x.1) refl z

  past_fits : j ≤ length s → Fits s c → Fits s (moved c j)
  past_fits w h =
      let l = less s c.at j (accessible_less s c.at (drop j s) n.begins (ap rest e)) in
      let k = h.few in
      let m = h.within in
      record { within = w; name = h.name; few = omega arith }

  past_way : j ≤ length s → OnWay s c → OnWay s (moved c j)
  past_way w h =
      let x = split a (accessibles_from s j) h.own h.rest (sym left_one ∙ h.reads) in
      record {
        fits = past_fits w h.fits;
        own = x.others;
        rest = h.rest;
        left = h.left;
        reads = left_moved ∙ x.are;
        follow = h.follow;
        end = h.end;
        home = h.home;
      }

  past_after : j ≤ length s → OnWay s c → After s c (moved c j)
  past_after w h =
      let l = less s c.at j (accessible_less s c.at (drop j s) n.begins (ap rest e)) in
      let m = h.fits.within in
      record { way = past_way w h; later = omega arith; begun = n.begun }

module _ (s : List ℕ) (c : Cursor) (h : OnWay s c) (f : follows s c ≡ true) (r : Option A.Accessible) (hr : AccessibleIs s r (accessible_at (length s) (drop c.at s))) where
  pub record_parameter : (q : ParameterAt) → r ≡ Some (A.TheVariants.Parameter q) → ParameterFirst accessibles_of Table.parameter s c q (moved c q.next)
  record_parameter q e =
      let x = rw e at hr in
      let b = past_begins s c f _ q.next x.is (whole s c h) (way_left s c h) in
      record {
        after = past_after s c f _ q.next x.is x.next_within h;
        next = refl;
        held =
            record {
              datainfo = x.datainfo;
              left = x.left;
              info = x.info;
              name = x.name;
              description = x.description;
              initial = x.initial;
              info_within = x.info_within;
              between = x.between;
              flagged = x.flagged;
              size = x.size;
              end = x.end;
            };
        first = b;
      }

  pub record_command : (q : CommandAt) → r ≡ Some (A.TheVariants.Command q) → CommandFirst accessibles_of Table.command s c q (moved c q.next)
  record_command q e =
      let x = rw e at hr in
      let b = past_begins s c f _ q.next x.is (whole s c h) (way_left s c h) in
      record {
        after = past_after s c f _ q.next x.is x.next_within h;
        next = refl;
        held =
            record {
              argument = x.argument;
              left = drop q.next s;
              info = x.info;
              name = x.name;
              description = x.description;
              info_within = x.info_within;
              between = x.between;
              flagged = x.flagged;
              end = refl;
              next_within = x.next_within;
            };
        first = b;
      }

  pub record_bad : r ≡ None → Ended accessibles_of s c
  record_bad e = absurd (never (sym (left_as accessibles_of s c ∙ ap (with_rest accessibles_of s c) none_left) ∙ way_left s c h))
    where
      none_left : accessibles_left s c ≡ None
      none_left = left_more s c f ∙ rw (rw e at hr)

-- ## The next module

has_first : {A B : Type 0} (o : Option A) (f : A → Option B) → is_some (o >>= f) ≡ true → is_some o ≡ true
has_first None f e = absurd (false≢true e)
has_first (Some a) f e = refl

-- a module's beginning has its mark
heading_begins : (xs : List ℕ) (m : Table.Module) (r : List ℕ) → heading_at xs ≡ Some (m, r) → begins (bytes "MO") xs ≡ true
unfolding heading_at texts_at begins
heading_begins xs m r e = has_first (after (bytes "MO") xs) _ (has_first (texts_at (bytes "MO") xs) _ (ap is_some e))

-- into a module, of which q has the positions
abbrev pub entered : Cursor → ModuleAt → Cursor
entered c q = record { at = q.next; modules = c.modules + 1; name = q.name }

module _ (s : List ℕ) (c : Cursor) (f : follows s c ≡ false) (h : Option ModuleAt) (hh : HeadingIs s h (heading_at (drop c.at s))) where
  -- what is left, read from the modules that follow
  on : left_from accessibles_of s c ≡ with_modules accessibles_of s c [] (modules_from s c.at)
  on = left_as accessibles_of s c ∙ ap (with_rest accessibles_of s c) (left_none s c f)

  pub enter_bad : h ≡ None → OnWay s c → Ended accessibles_of s c
  unfolding placed_from
  enter_bad e i = go (begins (bytes "MO") (drop c.at s)) refl
    where
      unread_modules : begins (bytes "MO") (drop c.at s) ≡ true → modules_from s c.at ≡ None
      unread_modules z = modules_more s c.at z ∙ simp (module_as, rw e at hh)

      go : (b : Bool) → begins (bytes "MO") (drop c.at s) ≡ b → Ended accessibles_of s c
      go true z = absurd (never (sym (on ∙ ap (with_modules accessibles_of s c []) (unread_modules z)) ∙ way_left s c i))
      go false z = on ∙ ap (with_modules accessibles_of s c []) (modules_stop s c.at z)

  module _ (q : ModuleAt) (e : h ≡ Some q) where
    starts : begins (bytes "MO") (drop c.at s) ≡ true
    starts = heading_begins (drop c.at s) _ _ (rw e at hh).is

    first_module : modules_from s c.at ≡ ((accessibles_from s q.next >>= λ x. Some (with_them (module_of s q) x)) >>= λ p. before p.0 (modules_at (length s) (length p.1) p.1))
    first_module = modules_more s c.at starts ∙ rw (module_is s c.at h hh q e)

    left_entered : accessibles_left s (entered c q) ≡ accessibles_from s q.next
    unfolding accessibles_left
    left_entered = rw (ne_eqb (c.modules + 1) 0 (λ z. omega arith))

    same_left : left_from accessibles_of s c ≡ left_from accessibles_of s (entered c q)
    unfolding module_of placed_from
    same_left =
        on ∙ ap (with_modules accessibles_of s c []) first_module ∙ go (accessibles_from s q.next)
        ∙ sym (left_as accessibles_of s (entered c q) ∙ ap (with_rest accessibles_of s (entered c q)) left_entered)
      where
        numbered : ℕ → ℕ → List Table.Accessible → List Table.Module → Option (List (Placed Table.Accessible))
        numbered k n xs ms = Some (map (λ (a : Table.Accessible). record { home = k; module_name = bytes_of s q.name; it = a }) xs ++ placed_from accessibles_of n ms)

        numbers : (k n : ℕ) (xs : List Table.Accessible) (ms : List Table.Module) → k ≡ c.modules → n ≡ suc c.modules → numbered c.modules (suc c.modules) xs ms ≡ numbered k n xs ms
        numbers k n xs ms e u = rw (e, u)

        inner : (xs : List Table.Accessible) (o : Option (List Table.Module × List ℕ)) → with_modules accessibles_of s c [] (before (with_accessibles (module_of s q) xs) o) ≡ with_modules accessibles_of s (entered c q) xs o
        inner xs None = refl
        inner xs (Some y) = numbers (c.modules + 1 - 1) (c.modules + 1) xs y.0 (omega arith) (add-one c.modules)

        go : (o : Option (List Table.Accessible × List ℕ)) → with_modules accessibles_of s c [] ((o >>= λ x. Some (with_them (module_of s q) x)) >>= λ p. before p.0 (modules_at (length s) (length p.1) p.1)) ≡ with_rest accessibles_of s (entered c q) o
        go None = refl
        go (Some x) = inner x.0 (modules_at (length s) (length x.1) x.1)

    module _ (i : OnWay s c) where
      -- where the accessibles of the modules before are at an end, the next module is read
      here : modules_from s c.at ≡ Some (drop c.modules (table_of s).modules, i.left)
      here = let r = ap (λ (x : List Table.Accessible × List ℕ). x.1) (in_some (sym i.reads ∙ left_none s c f)) in rw r at i.follow

      -- its own accessibles, and the modules after it
      record Entered : Type 0 where
        pub own : List Table.Accessible
        pub rest : List ℕ
        pub reads : accessibles_from s q.next ≡ Some (own, rest)
        pub follow : modules_at (length s) (length rest) rest ≡ Some (drop (c.modules + 1) (table_of s).modules, i.left)

      inside : Entered
      inside = go (accessibles_from s q.next) refl (sym first_module ∙ here)
        where
          go : (o : Option (List Table.Accessible × List ℕ)) → accessibles_from s q.next ≡ o → ((o >>= λ x. Some (with_them (module_of s q) x)) >>= λ p. before p.0 (modules_at (length s) (length p.1) p.1)) ≡ Some (drop c.modules (table_of s).modules, i.left) → Entered
          go None g z = absurd (never z)
          go (Some x) g z =
              let y = split (with_accessibles (module_of s q) x.0) (modules_at (length s) (length x.1) x.1) (drop c.modules (table_of s).modules) i.left z in
              record {
                own = x.0;
                rest = x.1;
                reads = g;
                follow = y.are ∙ ap (λ (l : List Table.Module). Some (l, i.left)) (sym (drop_next c.modules (table_of s).modules _ _ y.is));
              }

      entered_home : (n : ℕ) → n ≡ c.modules → HomeIs s n q.name
      entered_home n z = rw z (record { begin = c.at; left = i.left; reads = here; end = i.end; it = q; heading = rw e at hh; name = refl })

      pub enter_module : ModuleFirst s c (entered c q)
      enter_module =
          let x = rw e at hh in
          let l = less s c.at q.next (heading_less s c.at (drop q.next s) starts (ap rest x.is)) in
          let k = i.fits.few in
          let m = i.fits.within in
          let v = x.next_within in
          let y = inside in
          let way : OnWay s (entered c q) =
          record {
            fits = record { within = v; name = x.name; few = omega arith };
            own = y.own;
            rest = y.rest;
            left = i.left;
            reads = left_entered ∙ y.reads;
            follow = y.follow;
            end = i.end;
            home = λ z. entered_home (c.modules + 1 - 1) (omega arith);
          } in
          record { after = record { way = way; later = omega arith; begun = omega arith }; goes = sym same_left }

-- ## Before the first module

module _ (s : List ℕ) (g : Readable s) (r : Option HeadAt) (h : HeadRead s r) where
  pub first_bad : r ≡ None → {c : Cursor} → FirstCursor s c
  first_bad e = absurd (unread s r h (table_of s) (readable_whole s g) e)

  module _ (q : HeadAt) (e : r ≡ Some q) where
    abbrev start : Cursor
    start = record { at = q.first; modules = 0; name = record { from = q.first; to = q.first } }

    o : Opened s q (table_of s)
    o = opened s r h (table_of s) (readable_whole s g) q e

    all_left : {A : Type 0} (of : List Table.Accessible → List A) → of [] ≡ [] → left_from of s start ≡ Some (placed_from of 0 (table_of s).modules)
    unfolding accessibles_left
    all_left of z = left_as of s start ∙ rw (o.modules, z)

    pub first_good : FirstCursor s start
    unfolding parameters commands parameters_of commands_of accessibles_left
    first_good =
        let w = head_within s r h q e in
        record {
          way =
              record {
                fits = record { within = w; name = record { order = omega arith; within = w }; few = omega arith };
                own = [];
                rest = drop q.first s;
                left = o.left;
                reads = refl;
                follow = o.modules;
                end = o.end;
                home = λ z. absurd (omega arith);
              };
          head = o.head;
          modules = refl;
          unnamed = (refl, refl);
          parameters = all_left parameters_of refl;
          commands = all_left commands_of refl;
        }
