-- Laws of what is asked of a module and of the whole table, one for each way through a function that asks it. Assumes nothing.
use Rattle.std.specs.Prelude.{Option, Some, None}
use Prim.Native.Nat.{ℕ}
use mathlib.Core.Path.{◌≡◌, refl, sym, ◌∙◌}
use mathlib.Core.Bool.{Bool, true, false, ◌&&◌, false≢true}
use mathlib.Core.List.{List, map}
use lib.ListN.{length, drop}
use Rattle.ascii.specs.Bytes.{◌>>=◌, all}
use Rattle.ascii.specs.Names.{is_text}
use Rattle.datainfo.specs.Rules.{good_names}
use Rattle.table.specs.Table as Table
use Rattle.table.specs.Layout.{module_at}
use Rattle.table.specs.Rules.{accessible_name, note_good, module_names_good}
use Rattle.table.specs.declared.layout.Part.{Part}
use Rattle.table.specs.declared.layout.ModuleAt.{ModuleAt}
use Rattle.table.specs.declared.judge.Test.{Test}
use Rattle.table.specs.declared.judge.Test.TheVariants.{Names, Rules, Initials}
use Rattle.table.specs.declared.judge.Kind.TheVariants.{Accessibles}
use Rattle.table.specs.Clauses.At.{bytes_of, Inside, text_if, accessibles_from, heading_at, module_of, HeadingIs}
use Rattle.table.specs.Clauses.Judged.{passed, passes, module_passes, names_from, head_passes}
use Rattle.table.proofs.Modules.{with_them, module_as, module_is}

module _ (s : List ℕ) (note : Option Part) where
  pub note_good_lem : (p : Part) (r : Bool) → note ≡ Some p → r ≡ is_text (bytes_of s p) → r ≡ note_good (text_if s note)
  unfolding note_good
  note_good_lem p r e h = rw e h

  pub note_missing : note ≡ None → true ≡ note_good (text_if s note)
  unfolding note_good
  note_missing e = rw e

-- ## The beginning of a module

module _ (s : List ℕ) (m : ModuleAt) (v : Bool) (h : v ≡ (is_text (bytes_of s m.description) && note_good (text_if s m.note))) where
  pub head_textless : v ≡ false → v ≡ head_passes Names s m
  unfolding head_passes
  head_textless e = e ∙ rw (← h, e)

  pub head_good : (r : Bool) → v ≡ true → r ≡ passed good_names (names_from Accessibles s m.next) → r ≡ head_passes Names s m
  unfolding head_passes
  head_good r e k = rw (← h, e) k

module _ (s : List ℕ) (m : ModuleAt) (test : Test) where
  pub head_names : (r : Bool) → test ≡ Names → r ≡ head_passes Names s m → r ≡ head_passes test s m
  head_names r e h = rw e h

  pub head_rules : test ≡ Rules → true ≡ head_passes test s m
  unfolding head_passes
  head_rules e = rw e

  pub head_initials : test ≡ Initials → true ≡ head_passes test s m
  unfolding head_passes
  head_initials e = rw e

abbrev all_named : List Table.Accessible × List ℕ → List (List ℕ) × List ℕ
all_named q = (map accessible_name q.0, q.1)

-- what is asked of a module's beginning, of which o are the accessibles
abbrev beginning : List ℕ → ModuleAt → Test → Option (List Table.Accessible × List ℕ) → Bool
beginning s m Names o =
    is_text (bytes_of s m.description) && note_good (text_if s m.note)
    && passed good_names (o >>= λ q. Some (all_named q))
beginning s m Rules o = true
beginning s m Initials o = true

head_as : (s : List ℕ) (m : ModuleAt) (test : Test) → head_passes test s m ≡ beginning s m test (accessibles_from s m.next)
unfolding head_passes names_from
head_as s m Names = refl
head_as s m Rules = refl
head_as s m Initials = refl

module _ (s : List ℕ) (at : ℕ) (h : Option ModuleAt) (hh : HeadingIs s h (heading_at (drop at s))) where
  pub module_unread : (test : Test) → h ≡ None → false ≡ passed (module_passes test) (module_at (length s) (drop at s))
  module_unread test e = simp (module_as, rw e at hh)

  module _ (m : ModuleAt) (eh : h ≡ Some m) where
    pub module_text_lem : Inside s m.description
    module_text_lem = (rw eh at hh).description

    module _ (test : Test) (t : Bool) (ht : t ≡ head_passes test s m) where
      pub module_headless : t ≡ false → t ≡ passed (module_passes test) (module_at (length s) (drop at s))
      unfolding module_passes module_names_good module_of
      module_headless n = n ∙ rw (module_is s at h hh m eh) (go test (accessibles_from s m.next) (sym n ∙ ht ∙ head_as s m test))
        where
          go : (k : Test) (o : Option (List Table.Accessible × List ℕ)) → false ≡ beginning s m k o → false ≡ passed (module_passes k) (o >>= λ q. Some (with_them (module_of s m) q))
          go k None e = refl
          go Names (Some q) e = rw (← e)
          go Rules (Some q) e = let z : ◌≡◌ {A = Bool} false true = e in absurd (false≢true z)
          go Initials (Some q) e = let z : ◌≡◌ {A = Bool} false true = e in absurd (false≢true z)

      pub module_passes_lem : (r : Bool) → t ≡ true → r ≡ passed (all (passes test)) (accessibles_from s m.next) → r ≡ passed (module_passes test) (module_at (length s) (drop at s))
      unfolding module_passes module_names_good module_of passes
      module_passes_lem r n e = rw (module_is s at h hh m eh) (go test (accessibles_from s m.next) (sym n ∙ ht ∙ head_as s m test) e)
        where
          go : (k : Test) (o : Option (List Table.Accessible × List ℕ)) → true ≡ beginning s m k o → r ≡ passed (all (passes k)) o → r ≡ passed (module_passes k) (o >>= λ q. Some (with_them (module_of s m) q))
          go k None z e = e
          go Names (Some q) z e = rw (← z) e
          go Rules (Some q) z e = e
          go Initials (Some q) z e = e
