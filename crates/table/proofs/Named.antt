-- Laws of the names of records, whatever the records' kind, one for each way through a function that reads them. Assumes nothing.
use Rattle.std.specs.Prelude.{Option, Some, None}
use Prim.Native.Nat.{ℕ, ◌+◌, ◌-◌, ◌≤◌, ◌<◌}
use native.Mathlib.Omega.{arith}
use mathlib.Core.Path.{◌≡◌, refl, sym, ap, ◌∙◌}
use mathlib.Core.Bool.{Bool, true, false, not, ◌&&◌, ◌||◌}
use mathlib.Core.List.{List, [], ◌∷◌, map}
use lib.ListN.{length, drop}
use borrow.Author.Tests.{not-true, not-false}
use Rattle.ascii.specs.Text.{bytes}
use Rattle.ascii.specs.Bytes.{◌>>=◌, all, any, same}
use Rattle.ascii.specs.Names.{is_name, lowercase, distinct, unique}
use Rattle.ascii.specs.Clauses.Reader.{Ends, rest}
use Rattle.datainfo.specs.Rules.{good_names}
use Rattle.table.specs.Table as Table
use Rattle.table.specs.Layout.{begins, accessibles_at, module_at, modules_at}
use Rattle.table.specs.Rules.{accessible_name}
use Rattle.table.specs.declared.layout.Part.{Part}
use Rattle.table.specs.declared.layout.ParameterAt.{ParameterAt}
use Rattle.table.specs.declared.layout.CommandAt.{CommandAt}
use Rattle.table.specs.declared.layout.Accessible as A
use Rattle.table.specs.declared.layout.ModuleAt.{ModuleAt}
use Rattle.table.specs.declared.judge.Kind.{Kind}
use Rattle.table.specs.declared.judge.Kind.TheVariants.{Modules, Accessibles}
use Rattle.table.specs.Clauses.At.{bytes_of, accessible_begins, accessible_at, accessibles_from, parameter_of, command_of, AccessibleIs, heading_at, module_of, HeadingIs}
use Rattle.table.specs.Clauses.Judged.{passed, kind_begins, named_at, names_from, NameIs, NamedIs, differs, how_many}
use Rattle.table.proofs.Accessibles.{got, in_some, rest_none}
use Rattle.table.proofs.Enough.{before, accessibles_stop, accessibles_more, accessible_less, modules_stop, modules_more, module_less}
use Rattle.table.proofs.Modules.{with_them, module_as, module_is, less}
use Rattle.table.proofs.Tests.{and-false, all_before}

-- ## One name

module _ (s : List ℕ) (at : ℕ) (r : Option A.Accessible) (h : AccessibleIs s r (accessible_at (length s) (drop at s))) where
  pub named_parameter : (q : ParameterAt) → r ≡ Some (A.TheVariants.Parameter q) → NameIs s q.name q.next (named_at Accessibles (length s) (drop at s))
  unfolding named_at accessible_name parameter_of
  named_parameter q e = let x = rw e at h in record { is = rw x.is; inside = x.name; within = x.next_within }

  pub named_command : (q : CommandAt) → r ≡ Some (A.TheVariants.Command q) → NameIs s q.name q.next (named_at Accessibles (length s) (drop at s))
  unfolding named_at accessible_name command_of
  named_command q e = let x = rw e at h in record { is = rw x.is; inside = x.name; within = x.next_within }

  pub named_bad : r ≡ None → named_at Accessibles (length s) (drop at s) ≡ None
  unfolding named_at
  named_bad e = rw (rw e at h)

module _ (s : List ℕ) (at : ℕ) (h : Option ModuleAt) (hh : HeadingIs s h (heading_at (drop at s))) where
  pub named_headless : h ≡ None → named_at Modules (length s) (drop at s) ≡ None
  unfolding named_at
  named_headless e = simp (module_as, rw e at hh)

  module _ (m : ModuleAt) (eh : h ≡ Some m) (r : Option ℕ) (hr : Ends s r (rest (accessibles_from s m.next))) where
    pub named_endless : r ≡ None → named_at Modules (length s) (drop at s) ≡ None
    unfolding named_at
    named_endless e = rw (module_is s at h hh m eh, rest_none (accessibles_from s m.next) (λ q. Some (with_them (module_of s m) q)) (rw e at hr))

    pub named_module : (j : ℕ) → r ≡ Some j → NameIs s m.name j (named_at Modules (length s) (drop at s))
    unfolding named_at module_of
    named_module j e =
        let g = got (accessibles_from s m.next) (drop j s) (rw e at hr).0 in
        record { is = rw (module_is s at h hh m eh, g.is); inside = (rw eh at hh).name; within = (rw e at hr).1 }

module _ (kind : Kind) (s : List ℕ) (at : ℕ) where
  pub next_module : (b : Bool) → kind ≡ Modules → b ≡ begins (bytes "MO") (drop at s) → b ≡ kind_begins kind (drop at s)
  unfolding kind_begins
  next_module b e h = rw e h

  pub next_accessible : (b : Bool) → kind ≡ Accessibles → b ≡ accessible_begins (drop at s) → b ≡ kind_begins kind (drop at s)
  unfolding kind_begins
  next_accessible b e h = rw e h

  pub name_module : (r : Option (Part × ℕ)) → kind ≡ Modules → NamedIs s r (named_at Modules (length s) (drop at s)) → NamedIs s r (named_at kind (length s) (drop at s))
  name_module r e h = rw e h

  pub name_accessible : (r : Option (Part × ℕ)) → kind ≡ Accessibles → NamedIs s r (named_at Accessibles (length s) (drop at s)) → NamedIs s r (named_at kind (length s) (drop at s))
  name_accessible r e h = rw e h

module _ (s : List ℕ) (r : Option (Part × ℕ)) (o : Option (List ℕ × List ℕ)) (h : NamedIs s r o) (p : Part) (j : ℕ) (e : r ≡ Some (p, j)) where
  pub name_within : j ≤ length s
  name_within = (rw e at h).within

-- ## The names that follow

module _ {A : Type 0} (f : A → List ℕ) where
  abbrev named : A × List ℕ → List ℕ × List ℕ
  named a = (f a.0, a.1)

  abbrev all_named : List A × List ℕ → List (List ℕ) × List ℕ
  all_named q = (map f q.0, q.1)

  -- what a record was whose name was read
  pub record Was (o : Option (A × List ℕ)) (x r : List ℕ) : Type 0 where
    pub it : A
    pub is : o ≡ Some (it, r)
    pub name : f it ≡ x

  pub was : (o : Option (A × List ℕ)) (x r : List ℕ) → (o >>= λ a. Some (named a)) ≡ Some (x, r) → Was o x r
  was None x r e = let z : ◌≡◌ {A = ℕ} 0 1 = cc in absurd (omega arith)
  was (Some a) x r e =
      let y : f a.0 ≡ x = ap (λ (l : List ℕ × List ℕ). l.0) (in_some e) in
      let z : a.1 ≡ r = ap (λ (l : List ℕ × List ℕ). l.1) (in_some e) in
      record { it = a.0; is = ap (λ (l : List ℕ). Some (a.0, l)) z; name = y }

  pub none_was : (o : Option (A × List ℕ)) → (o >>= λ a. Some (named a)) ≡ None → o ≡ None
  none_was None e = refl
  none_was (Some a) e = let z : ◌≡◌ {A = ℕ} 0 1 = cc in absurd (omega arith)

  named_before : (a : A) (o : Option (List A × List ℕ)) → (before a o >>= λ q. Some (all_named q)) ≡ before (f a) (o >>= λ q. Some (all_named q))
  named_before a None = refl
  named_before a (Some q) = refl

  -- records that go on after one whose name was read
  names_on : (g : List ℕ → Option (List A × List ℕ)) (o : Option (A × List ℕ)) (x r : List ℕ) → (o >>= λ a. Some (named a)) ≡ Some (x, r) → ((o >>= λ a. before a.0 (g a.1)) >>= λ q. Some (all_named q)) ≡ before x (g r >>= λ q. Some (all_named q))
  names_on g o x r e = let w = was o x r e in rw (w.is, named_before w.it (g r), w.name)

module _ (kind : Kind) (s : List ℕ) (i : ℕ) where
  pub names_stop : kind_begins kind (drop i s) ≡ false → names_from kind s i ≡ Some ([], drop i s)
  unfolding kind_begins names_from
  names_stop = go kind
    where
      go : (k : Kind) → kind_begins k (drop i s) ≡ false → names_from k s i ≡ Some ([], drop i s)
      go Modules h = rw (modules_stop s i h)
      go Accessibles h = rw (accessibles_stop s i h)

  module _ (x : List ℕ) (j : ℕ) where
    pub names_next : kind_begins kind (drop i s) ≡ true → named_at kind (length s) (drop i s) ≡ Some (x, drop j s) → names_from kind s i ≡ before x (names_from kind s j)
    unfolding kind_begins names_from named_at
    names_next = go kind
      where
        go : (k : Kind) → kind_begins k (drop i s) ≡ true → named_at k (length s) (drop i s) ≡ Some (x, drop j s) → names_from k s i ≡ before x (names_from k s j)
        go Modules h e = rw (modules_more s i h) (names_on (λ (m : Table.Module). m.name) (λ xs. modules_at (length s) (length xs) xs) (module_at (length s) (drop i s)) x (drop j s) e)
        go Accessibles h e = rw (accessibles_more s i h) (names_on accessible_name (λ xs. accessibles_at (length s) (length xs) xs) (accessible_at (length s) (drop i s)) x (drop j s) e)

    pub names_fall : kind_begins kind (drop i s) ≡ true → named_at kind (length s) (drop i s) ≡ Some (x, drop j s) → length s - j < length s - i
    unfolding kind_begins named_at
    names_fall = go kind
      where
        go : (k : Kind) → kind_begins k (drop i s) ≡ true → named_at k (length s) (drop i s) ≡ Some (x, drop j s) → length s - j < length s - i
        go Modules h e = less s i j (module_less s i (drop j s) h (ap rest (was (λ (m : Table.Module). m.name) (module_at (length s) (drop i s)) x (drop j s) e).is))
        go Accessibles h e = less s i j (accessible_less s i (drop j s) h (ap rest (was accessible_name (accessible_at (length s) (drop i s)) x (drop j s) e).is))

  pub names_bad : kind_begins kind (drop i s) ≡ true → named_at kind (length s) (drop i s) ≡ None → names_from kind s i ≡ None
  unfolding kind_begins names_from named_at
  names_bad = go kind
    where
      go : (k : Kind) → kind_begins k (drop i s) ≡ true → named_at k (length s) (drop i s) ≡ None → names_from k s i ≡ None
      go Modules h e = rw (modules_more s i h, none_was (λ (m : Table.Module). m.name) (module_at (length s) (drop i s)) e)
      go Accessibles h e = rw (accessibles_more s i h, none_was accessible_name (accessible_at (length s) (drop i s)) e)

-- ## Good names

pub differ : (p q : List ℕ) (t : Bool) → t ≡ same (lowercase p) (lowercase q) → not t ≡ differs p q
unfolding differs
differ p q t e = ap not e

any_map : (x : List ℕ) (ys : List (List ℕ)) → not (any (same (lowercase x)) (map lowercase ys)) ≡ all (differs x) ys
unfolding any all differs
any_map x [] = refl
any_map x (y ∷ ys) = go (same (lowercase x) (lowercase y)) (any_map x ys)
  where
    go : (b : Bool) → not (any (same (lowercase x)) (map lowercase ys)) ≡ all (differs x) ys → not (b || any (same (lowercase x)) (map lowercase ys)) ≡ (not b && all (differs x) ys)
    go true h = refl
    go false h = h

regroup : (a b c d : Bool) → ((a && b) && (c && d)) ≡ ((a && c) && (b && d))
regroup false b c d = refl
regroup true false false d = refl
regroup true false true d = refl
regroup true true c d = refl

good_more : (x : List ℕ) (xs : List (List ℕ)) → good_names (x ∷ xs) ≡ ((is_name x && all (differs x) xs) && good_names xs)
unfolding good_names unique distinct all
good_more x xs =
    ap (λ (b : Bool). (is_name x && all is_name xs) && (b && distinct (map lowercase xs))) (any_map x xs)
    ∙ regroup (is_name x) (all is_name xs) (all (differs x) xs) (distinct (map lowercase xs))

good_before : (x : List ℕ) (o : Option (List (List ℕ) × List ℕ)) → passed good_names (before x o) ≡ ((is_name x && passed (all (differs x)) o) && passed good_names o)
good_before x None = sym (and-false (is_name x && false))
good_before x (Some q) = good_more x q.0

-- the names of a kind from position i on, of which the record r is the first
module _ (s : List ℕ) (kind : Kind) (i : ℕ) (b : Bool) (hb : b ≡ kind_begins kind (drop i s)) where
  module _ (x : List ℕ) (o : Bool) (e : o ≡ passed (all (differs x)) (names_from kind s i)) where
    pub new_last : b ≡ false → true ≡ o
    unfolding all
    new_last z = sym (e ∙ ap (passed (all (differs x))) (names_stop kind s i (sym hb ∙ z)))

    module _ (z : b ≡ true) (r : Option (Part × ℕ)) (h : NamedIs s r (named_at kind (length s) (drop i s))) where
      pub new_bad : r ≡ None → false ≡ o
      new_bad y = sym (e ∙ ap (passed (all (differs x))) (names_bad kind s i (sym hb ∙ z) (rw y at h)))

      module _ (p : Part) (j : ℕ) (y : r ≡ Some (p, j)) (t : Bool) (ht : t ≡ differs x (bytes_of s p)) where
        goes : o ≡ (t && passed (all (differs x)) (names_from kind s j))
        goes =
            e ∙ ap (passed (all (differs x))) (names_next kind s i (bytes_of s p) j (sym hb ∙ z) (rw y at h).is)
            ∙ all_before (differs x) (λ l. None) (bytes_of s p) (names_from kind s j) ∙ rw ht

        pub new_fails : not t ≡ true → false ≡ o
        new_fails n = sym (goes ∙ rw (not-true t n))

        pub new_next : not t ≡ false → o ≡ passed (all (differs x)) (names_from kind s j)
        new_next n = goes ∙ rw (not-false t n)

  module _ (z : b ≡ true) (r : Option (Part × ℕ)) (h : NamedIs s r (named_at kind (length s) (drop i s))) where
    module _ (p : Part) (j : ℕ) (y : r ≡ Some (p, j)) where
      pub names_less : length s - j < length s - i
      names_less = names_fall kind s i (bytes_of s p) j (sym hb ∙ z) (rw y at h).is

      pub names_after : (n : ℕ) → n ≤ i → i ≤ length s → n + 1 ≤ j
      names_after n k w = let l = names_less in omega arith

    module _ (o : Bool) (e : o ≡ passed good_names (names_from kind s i)) where
      pub good_bad : r ≡ None → false ≡ o
      good_bad y = sym (e ∙ ap (passed good_names) (names_bad kind s i (sym hb ∙ z) (rw y at h)))

      module _ (p : Part) (j : ℕ) (y : r ≡ Some (p, j)) (t : Bool) (ht : t ≡ is_name (bytes_of s p)) where
        good_goes : o ≡ ((t && passed (all (differs (bytes_of s p))) (names_from kind s j)) && passed good_names (names_from kind s j))
        good_goes =
            e ∙ ap (passed good_names) (names_next kind s i (bytes_of s p) j (sym hb ∙ z) (rw y at h).is)
            ∙ good_before (bytes_of s p) (names_from kind s j) ∙ rw ht

        pub good_unnamed : not t ≡ true → false ≡ o
        good_unnamed n = sym (good_goes ∙ rw (not-true t n))

        module _ (n : not t ≡ false) (u : Bool) (hu : u ≡ passed (all (differs (bytes_of s p))) (names_from kind s j)) where
          pub good_repeated : not u ≡ true → false ≡ o
          good_repeated k = sym (good_goes ∙ rw (not-false t n, ← hu, not-true u k))

          pub good_next : not u ≡ false → o ≡ passed good_names (names_from kind s j)
          good_next k = good_goes ∙ rw (not-false t n, ← hu, not-false u k)

    module _ (o n : ℕ) (e : o ≡ how_many n (names_from kind s i)) where
      pub count_bad : r ≡ None → 0 ≡ o
      count_bad y = sym (e ∙ ap (how_many n) (names_bad kind s i (sym hb ∙ z) (rw y at h)))

      pub count_next : (p : Part) (j : ℕ) → r ≡ Some (p, j) → o ≡ how_many (n + 1) (names_from kind s j)
      count_next p j y =
          e ∙ ap (how_many n) (names_next kind s i (bytes_of s p) j (sym hb ∙ z) (rw y at h).is)
          ∙ go (names_from kind s j)
        where
          go : (l : Option (List (List ℕ) × List ℕ)) → how_many n (before (bytes_of s p) l) ≡ how_many (n + 1) l
          go None = refl
          go (Some q) = omega arith

  pub good_last : (o : Bool) → o ≡ passed good_names (names_from kind s i) → b ≡ false → true ≡ o
  unfolding good_names unique distinct all
  good_last o e z = sym (e ∙ ap (passed good_names) (names_stop kind s i (sym hb ∙ z)))

  pub count_last : (o n : ℕ) → o ≡ how_many n (names_from kind s i) → b ≡ false → n ≡ o
  count_last o n e z = sym (e ∙ ap (how_many n) (names_stop kind s i (sym hb ∙ z)) ∙ omega arith)
