-- Laws of searches for modules, one for each way through a function that searches. Assumes nothing.
use Rattle.std.specs.Prelude.{Option, Some, None}
use Prim.Native.Nat.{ℕ, suc, ◌+◌, ◌≤◌}
use native.Mathlib.Numerals.{add-one}
use mathlib.Core.Path.{◌≡◌, refl, sym, ap, ◌∙◌}
use mathlib.Core.Bool.{Bool, true, false, cond}
use mathlib.Core.List.{List}
use lib.ListN.{length, drop}
use Rattle.ascii.specs.Text.{bytes}
use Rattle.ascii.specs.Bytes.{◌>>=◌, same}
use Rattle.table.specs.Table as Table
use Rattle.table.specs.Layout.{begins, module_at, modules_at, Readable, table_of}
use Rattle.table.specs.Search.{first, first_from, find_module}
use Rattle.table.specs.declared.layout.Part.{Part}
use Rattle.table.specs.declared.layout.HeadAt.{HeadAt}
use Rattle.table.specs.declared.judge.Kind.TheVariants.{Modules}
use Rattle.table.specs.Clauses.At.{bytes_of, modules_from, HeadRead}
use Rattle.table.specs.Clauses.Judged.{kind_begins, named_at, names_from, how_many, NamedIs}
use Rattle.search.specs.Clauses.Found.{is_called, FirstModule, FindsFirst, FindsModule}
use Rattle.table.proofs.Accessibles.{in_some}
use Rattle.table.proofs.Enough.{before, modules_stop, modules_more}
use Rattle.table.proofs.Named.{Was, was, none_was}
use Rattle.table.proofs.Whole.{Opened, opened, unread, readable_whole, modules_many, never}
use Rattle.search.proofs.Lefts.{Split, split, drop_next}

-- the modules ms from position i on, of which n come before, and what is still to be searched for the name
pub record Left (s name : List ℕ) (n i : ℕ) (ms : List Table.Module) (x : List ℕ) : Type 0 where
  pub others : List Table.Module
  pub are : modules_from s i ≡ Some (others, x)
  pub last : others ≡ drop n ms
  pub finds : first (is_called name) ms ≡ first_from (is_called name) n others

-- the same, whatever the modules from position `at` on are
abbrev pub Lefts : List ℕ → ℕ → List ℕ → ℕ → ℕ → Type 0
Lefts s at name n i = (ms : List Table.Module) (x : List ℕ) → modules_from s at ≡ Some (ms, x) → Left s name n i ms x

pub search_start : (s : List ℕ) (at : ℕ) (name : List ℕ) → Lefts s at name 0 at
unfolding first
search_start s at name ms x e = record { others = ms; are = e; last = refl; finds = refl }

module _ (s : List ℕ) (at : ℕ) (name : List ℕ) (n i : ℕ) (ws : Lefts s at name n i) (b : Bool) (hb : b ≡ kind_begins Modules (drop i s)) where
  begun : {c : Bool} → b ≡ c → begins (bytes "MO") (drop i s) ≡ c
  unfolding kind_begins
  begun z = sym hb ∙ z

  pub search_last : b ≡ false → (ms : List Table.Module) (x : List ℕ) → modules_from s at ≡ Some (ms, x) → first (is_called name) ms ≡ None
  unfolding first_from
  search_last z ms x u =
      let w = ws ms x u in
      let y = in_some (sym (modules_stop s i (begun z)) ∙ w.are) in
      w.finds ∙ rw (← (ap (λ (l : List Table.Module × List ℕ). l.0) y))

  module _ (z : b ≡ true) (r : Option (Part × ℕ)) (h : NamedIs s r (named_at Modules (length s) (drop i s))) where
    pub search_bad : r ≡ None → (ms : List Table.Module) (x : List ℕ) → modules_from s at ≡ Some (ms, x) → first (is_called name) ms ≡ None
    unfolding named_at
    search_bad e ms x u =
        absurd (never (sym (modules_more s i (begun z) ∙ rw (none_was (λ (m : Table.Module). m.name) (module_at (length s) (drop i s)) (rw e at h))) ∙ (ws ms x u).are))

    module _ (p : Part) (j : ℕ) (e : r ≡ Some (p, j)) (t : Bool) (ht : t ≡ same name (bytes_of s p)) where
      it : Was (λ (m : Table.Module). m.name) (module_at (length s) (drop i s)) (bytes_of s p) (drop j s)
      unfolding named_at
      it = was (λ (m : Table.Module). m.name) (module_at (length s) (drop i s)) (bytes_of s p) (drop j s) (rw e at h).is

      parts : {ms : List Table.Module} {x : List ℕ} (w : Left s name n i ms x) → Split it.it (modules_from s j) w.others x
      parts {ms} {x} w = split it.it (modules_from s j) w.others x (sym (modules_more s i (begun z) ∙ go it) ∙ w.are)
        where
          go : (v : Was (λ (m : Table.Module). m.name) (module_at (length s) (drop i s)) (bytes_of s p) (drop j s)) → (module_at (length s) (drop i s) >>= λ a. before a.0 (modules_at (length s) (length a.1) a.1)) ≡ before v.it (modules_from s j)
          go v = rw v.is

      -- the search from here on, by what the test says
      on : {ms : List Table.Module} {x : List ℕ} → Left s name n i ms x → Bool → Option (ℕ × Table.Module)
      on w d = cond d (Some (n, it.it)) (first_from (is_called name) (suc n) (parts w).others)

      step : {ms : List Table.Module} {x : List ℕ} (w : Left s name n i ms x) → first (is_called name) ms ≡ on w t
      unfolding first_from on
      step w = w.finds ∙ ap (first_from (is_called name) n) (parts w).is ∙ ap (on w) (ap (same name) it.name ∙ sym ht)

      pub search_found : t ≡ true → i ≤ length s → (ms : List Table.Module) (x : List ℕ) → modules_from s at ≡ Some (ms, x) → FirstModule s name n i ms x
      unfolding on
      search_found y l ms x u =
          let w = ws ms x u in
          record { it = it.it; is = step w ∙ ap (on w) y; reads = w.are ∙ ap (λ (o : List Table.Module). Some (o, x)) w.last; within = l }

      pub search_next : t ≡ false → Lefts s at name (n + 1) j
      unfolding on
      search_next y ms x u =
          let w = ws ms x u in
          record {
            others = (parts w).others;
            are = (parts w).are;
            last = sym (drop_next n ms _ _ (sym w.last ∙ (parts w).is));
            finds = step w ∙ ap (on w) y ∙ ap (λ (k : ℕ). first_from (is_called name) k (parts w).others) (sym (add-one n));
          }

module _ (s : List ℕ) (g : Readable s) (r : Option HeadAt) (h : HeadRead s r) where
  told : r ≡ None → ⊥
  told e = unread s r h (table_of s) (readable_whole s g) e

  pub find_untold : (name : List ℕ) → r ≡ None → find_module (table_of s) name ≡ None
  find_untold name e = absurd (told e)

  pub count_untold : (n : ℕ) → r ≡ None → n ≡ length (table_of s).modules
  count_untold n e = absurd (told e)

  module _ (q : HeadAt) (e : r ≡ Some q) where
    o : Opened s q (table_of s)
    o = opened s r h (table_of s) (readable_whole s g) q e

    pub find_modules : (name : List ℕ) (f : Option (ℕ × ℕ)) → ((ms : List Table.Module) (x : List ℕ) → modules_from s q.first ≡ Some (ms, x) → FindsFirst s name f ms x) → FindsModule s name f
    unfolding find_module
    find_modules name (Some (n, i)) k =
        let x = k (table_of s).modules o.left o.modules in
        record { it = x.it; is = x.is; left = o.left; reads = x.reads; end = o.end; within = x.within }
    find_modules name None k = k (table_of s).modules o.left o.modules

    pub count_modules : (n : ℕ) → n ≡ how_many 0 (names_from Modules s q.first) → n ≡ length (table_of s).modules
    count_modules n k = modules_many s r h (table_of s) (readable_whole s g) q e n k
