-- What the code that judges a table answers about its parts. Assumes nothing.
use Rattle.std.specs.Prelude.{ℕ, ◌+◌, ◌≤◌, ◌≡◌, Bool, true, false, not, ◌&&◌, List, map, leb, length, drop, Option, Some, None}
use Rattle.ascii.specs.Text.{bytes}
use Rattle.ascii.specs.Bytes.{◌>>=◌, all, same}
use Rattle.ascii.specs.Names.{is_text, lowercase}
use Rattle.datainfo.specs.Datainfo.{Datainfo}
use Rattle.datainfo.specs.Rules as Datainfo
use Rattle.datainfo.specs.Rules.{good_names}
use Rattle.fit.specs.Fit.{is_stored}
use Rattle.table.specs.Table.{Accessible, Module, Table}
use Rattle.table.specs.Layout.{begins, module_at}
use Rattle.table.specs.Rules.{accessible_name, accessible_count, note_good, accessible_names_good, module_names_good, rules_kept}
use Rattle.table.specs.Rules.{initial_good, first_fault, faults_below6}
use Rattle.table.specs.Clauses.At.{bytes_of, Inside, text_if, accessible_begins, accessible_at, accessibles_from, modules_from}
use Rattle.table.specs.declared.layout.Part.{Part}
use Rattle.table.specs.declared.layout.ModuleAt.{ModuleAt}
use Rattle.table.specs.declared.judge.Test.{Test}
use Rattle.table.specs.declared.judge.Test.TheVariants.{Names, Rules, Initials}
use Rattle.table.specs.declared.judge.Kind.{Kind}
use Rattle.table.specs.declared.judge.Kind.TheVariants.{Modules, Accessibles}

-- a test of what was read; what can't be read does not pass
abbrev pub passed : {A : Type 0} → (A → Bool) → Option (A × List ℕ) → Bool
passed p None = false
passed p (Some a) = p a.0

-- ## What a test asks

unfoldable pub text_passes : Test → List ℕ → Bool
text_passes Names x = is_text x
text_passes Rules x = true
text_passes Initials x = true

unfoldable pub info_passes : Test → Datainfo → Bool
info_passes Names d = Datainfo.names_good d
info_passes Rules d = Datainfo.rules_kept d
info_passes Initials d = true

unfoldable pub value_passes : Test → Datainfo → List ℕ → Bool
value_passes Names d x = true
value_passes Rules d x = true
value_passes Initials d x = is_stored d x

unfoldable pub passes : Test → Accessible → Bool
passes Names a = accessible_names_good a
passes Rules a = rules_kept a
passes Initials a = initial_good a

unfoldable pub module_passes : Test → Module → Bool
module_passes Names m = module_names_good m
module_passes Rules m = all rules_kept m.accessibles
module_passes Initials m = all initial_good m.accessibles

-- ## Names

unfoldable pub kind_begins : Kind → List ℕ → Bool
kind_begins Modules xs = begins (bytes "MO") xs
kind_begins Accessibles xs = accessible_begins xs

-- the name of a record of a kind, in a table of n bytes
unfoldable pub named_at : Kind → ℕ → List ℕ → Option (List ℕ × List ℕ)
named_at Modules n xs = do
  (m, r) ← module_at n xs
  Some (m.name, r)
named_at Accessibles n xs = do
  (a, r) ← accessible_at n xs
  Some (accessible_name a, r)

-- the names of the records of a kind from a position on
unfoldable pub names_from : Kind → List ℕ → ℕ → Option (List (List ℕ) × List ℕ)
names_from Modules s at = do
  (ms, r) ← modules_from s at
  Some (map (λ (m : Module). m.name) ms, r)
names_from Accessibles s at = do
  (xs, r) ← accessibles_from s at
  Some (map accessible_name xs, r)

pub record NameIs (s : List ℕ) (p : Part) (j : ℕ) (o : Option (List ℕ × List ℕ)) : Type 0 where
  pub is : o ≡ Some (bytes_of s p, drop j s)
  pub inside : Inside s p
  pub within : j ≤ length s

-- the answer of a reader of a name
abbrev pub NamedIs : List ℕ → Option (Part × ℕ) → Option (List ℕ × List ℕ) → Type 0
NamedIs s (Some (p, j)) o = NameIs s p j o
NamedIs s None o = o ≡ None

-- two names that are not the same when lowercased
unfoldable pub differs : List ℕ → List ℕ → Bool
differs x y = not (same (lowercase x) (lowercase y))

-- how many were read, after n others; 0 if they can't be read
abbrev pub how_many : {A : Type 0} → ℕ → Option (List A × List ℕ) → ℕ
how_many n None = 0
how_many n (Some q) = n + length q.0

-- what is asked of a module before its accessibles
unfoldable pub head_passes : Test → List ℕ → ModuleAt → Bool
head_passes Names s m =
    is_text (bytes_of s m.description) && note_good (text_if s m.note)
    && passed good_names (names_from Accessibles s m.next)
head_passes Rules s m = true
head_passes Initials s m = true

-- ## Counts

-- o is a module with n accessibles, after which the bytes from j on are left
pub record ModuleHas (s : List ℕ) (n j : ℕ) (o : Option (Module × List ℕ)) : Type 0 where
  pub it : Module
  pub is : o ≡ Some (it, drop j s)
  pub many : n ≡ length it.accessibles
  pub within : j ≤ length s

abbrev pub MembersAre : List ℕ → Option (ℕ × ℕ) → Option (Module × List ℕ) → Type 0
MembersAre s (Some (n, j)) o = ModuleHas s n j o
MembersAre s None o = o ≡ None

-- at most so many accessibles in all
unfoldable pub few : ℕ → List Module → Bool
few most ms = leb (accessible_count ms) most

-- ## The number

-- the lowest of the numbers 1 to 5
unfoldable pub number_below6 : Option Table → ℕ
number_below6 None = 1
number_below6 (Some t) = first_fault (faults_below6 t)
