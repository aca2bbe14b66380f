-- The table that a report's value tells, and that this is the table that is enforced. Assumes nothing.
use Rattle.std.specs.Prelude.{Option, Some, None}
use Prim.Native.Nat.{ℕ, zero, suc, ◌+◌, ◌≤◌}
use native.Mathlib.Omega.{arith}
use mathlib.Core.Bool.{Bool, true, false, cond}
use mathlib.Core.List.{List, [], ◌∷◌, map}
use mathlib.Core.Path.{◌≡◌, refl, ap, ap₂}
use lib.IntN.{ℤ}
use Rattle.ascii.specs.Text.{bytes}
use Rattle.ascii.specs.Bytes.{same}
use Rattle.json_text.specs.Json.{Json, null, Items, no_items, item, Members, no_members, member}
use Rattle.datainfo.specs.Datainfo.{Variant, Datainfo, double, int, bool, enum, string, array, tuple, struct, scaled, blob, partial, Elements, no_elements, element, Fields, no_fields, field}
use Rattle.fit.specs.Fit.{as_number, as_boolean, as_string, as_array, as_object}
use Rattle.table.specs.Table.{Accessible, parameter, command, Module, Table}
use Rattle.report.specs.Report.{variant_values, name_items, datainfo_value, element_values, field_values, argument_member, accessible_member, accessible_members}
use Rattle.report.specs.Report.{keyed, module_members, report_value}
use Rattle.report.specs.Theorems.{enforced_datainfo, enforced_elements, enforced_fields, enforced_argument, enforced_accessible, enforced_module, enforced}
use Rattle.report.proofs.Numbers.{natural_of, natural_back, integer_of, integer_back, decimal_of, decimal_back}

-- ## Parts of a value, by kind and by place

abbrev or : {A : Type 0} → A → Option A → A
or a None = a
or a (Some b) = b

abbrev text : Json → List ℕ
text v = or [] (as_string v)

abbrev digits : Json → List ℕ
digits v = or [] (as_number v)

abbrev flag : Json → Bool
flag v = or false (as_boolean v)

abbrev items : Json → Items
items v = or no_items (as_array v)

abbrev members : Json → Members
members v = or no_members (as_object v)

-- the value and the key of the n-th member
at : ℕ → Members → Json
at n no_members = null
at zero (member k v ms) = v
at (suc n) (member k v ms) = at n ms

key_at : ℕ → Members → List ℕ
key_at n no_members = []
key_at zero (member k v ms) = k
key_at (suc n) (member k v ms) = key_at n ms

-- ## Datainfo

variants_from : Members → List Variant
variants_from no_members = []
variants_from (member k v ms) = record { name = k; number = integer_of (digits v) } ∷ variants_from ms

names_from : Items → List (List ℕ)
names_from no_items = []
names_from (item v is) = text v ∷ names_from is

module _ (f : Json → Datainfo) where
  elements_from : Items → Elements
  elements_from no_items = no_elements
  elements_from (item v is) = element (f v) (elements_from is)

  fields_from : Members → Fields
  fields_from no_members = no_fields
  fields_from (member k v ms) = field k (f v) (fields_from ms)

  -- by the name of the type; f tells the datainfos that stand within
  typed : List ℕ → Members → Datainfo
  typed t ms =
      cond (same t (bytes "double")) (double (decimal_of (digits (at 1 ms))) (decimal_of (digits (at 2 ms))))
      (cond (same t (bytes "int")) (int (integer_of (digits (at 1 ms))) (integer_of (digits (at 2 ms))))
      (cond (same t (bytes "bool")) bool
      (cond (same t (bytes "enum")) (enum (variants_from (members (at 1 ms))))
      (cond (same t (bytes "string")) (string (natural_of (digits (at 1 ms))) (natural_of (digits (at 2 ms))))
      (cond (same t (bytes "array")) (array (natural_of (digits (at 1 ms))) (natural_of (digits (at 2 ms))) (f (at 3 ms)))
      (cond (same t (bytes "tuple")) (tuple (elements_from (items (at 1 ms))))
      (cond (same t (bytes "scaled"))
      (scaled (decimal_of (digits (at 1 ms))) (integer_of (digits (at 2 ms))) (integer_of (digits (at 3 ms))))
      (cond (same t (bytes "blob")) (blob (natural_of (digits (at 1 ms))) (natural_of (digits (at 2 ms))))
      (cond (same (key_at 2 ms) (bytes "optional")) (partial (names_from (items (at 2 ms))) (fields_from (members (at 1 ms))))
      (struct (fields_from (members (at 1 ms)))))))))))))

-- a datainfo of at most n levels
datainfo_of : ℕ → Json → Datainfo
datainfo_of zero v = bool
datainfo_of (suc n) v = typed (datainfo_of n) (text (at 0 (members v))) (members v)

-- no less than how many levels there are
mutual
  levels : Datainfo → ℕ
  levels (double lo hi) = 1
  levels (int lo hi) = 1
  levels bool = 1
  levels (enum vs) = 1
  levels (string lo hi) = 1
  levels (array lo hi d) = suc (levels d)
  levels (tuple ds) = suc (elements_levels ds)
  levels (struct fs) = suc (fields_levels fs)
  levels (scaled s lo hi) = 1
  levels (blob lo hi) = 1
  levels (partial ns fs) = suc (fields_levels fs)

  elements_levels : Elements → ℕ
  elements_levels no_elements = 0
  elements_levels (element d ds) = levels d + elements_levels ds

  fields_levels : Fields → ℕ
  fields_levels no_fields = 0
  fields_levels (field k d fs) = levels d + fields_levels fs

variants_back : (vs : List Variant) → variants_from (variant_values vs) ≡ vs
unfolding variants_from variant_values as_number
variants_back [] = refl
variants_back (v ∷ vs) =
    ap₂ (λ (z : ℤ) (l : List Variant). record { name = v.name; number = z } ∷ l) (integer_back v.number) (variants_back vs)

names_back : (ns : List (List ℕ)) → names_from (name_items ns) ≡ ns
unfolding names_from name_items as_string
names_back [] = refl
names_back (n ∷ ns) = ap (λ l. n ∷ l) (names_back ns)

told_names : (top : Bool) (ns : List (List ℕ)) → names_from (cond top (name_items ns) no_items) ≡ cond top ns []
unfolding names_from
told_names true ns = names_back ns
told_names false ns = refl

mutual
  unfolding datainfo_of typed at key_at enforced_datainfo elements_from fields_from datainfo_value levels same bytes as_number as_string as_array as_object

  datainfo_back : (top : Bool) (d : Datainfo) (n : ℕ) → levels d ≤ n → datainfo_of n (datainfo_value top d) ≡ enforced_datainfo top d
  datainfo_back top (double lo hi) zero h = absurd (omega arith)
  datainfo_back top (double lo hi) (suc n) h = ap₂ double (decimal_back lo.whole lo.power) (decimal_back hi.whole hi.power)
  datainfo_back top (int lo hi) zero h = absurd (omega arith)
  datainfo_back top (int lo hi) (suc n) h = ap₂ int (integer_back lo) (integer_back hi)
  datainfo_back top bool zero h = absurd (omega arith)
  datainfo_back top bool (suc n) h = refl
  datainfo_back top (enum vs) zero h = absurd (omega arith)
  datainfo_back top (enum vs) (suc n) h = ap enum (variants_back vs)
  datainfo_back top (string lo hi) zero h = absurd (omega arith)
  datainfo_back top (string lo hi) (suc n) h = ap₂ string (natural_back lo) (natural_back hi)
  datainfo_back top (array lo hi d) zero h = absurd (omega arith)
  datainfo_back top (array lo hi d) (suc n) h =
      let e = datainfo_back false d n (omega arith) in
      rw (natural_back lo, natural_back hi) (ap (array lo hi) e)
  datainfo_back top (tuple ds) zero h = absurd (omega arith)
  datainfo_back top (tuple ds) (suc n) h = ap tuple (elements_back ds n (omega arith))
  datainfo_back top (struct fs) zero h = absurd (omega arith)
  datainfo_back top (struct fs) (suc n) h = ap struct (fields_back fs n (omega arith))
  datainfo_back top (scaled s lo hi) zero h = absurd (omega arith)
  datainfo_back top (scaled s lo hi) (suc n) h =
      rw (integer_back lo, integer_back hi) (ap (λ z. scaled z lo hi) (decimal_back s.whole s.power))
  datainfo_back top (blob lo hi) zero h = absurd (omega arith)
  datainfo_back top (blob lo hi) (suc n) h = ap₂ blob (natural_back lo) (natural_back hi)
  datainfo_back top (partial ns fs) zero h = absurd (omega arith)
  datainfo_back top (partial ns fs) (suc n) h = ap₂ partial (told_names top ns) (fields_back fs n (omega arith))

  elements_back : (ds : Elements) (n : ℕ) → elements_levels ds ≤ n → elements_from (datainfo_of n) (element_values ds) ≡ enforced_elements ds
  elements_back no_elements n h = refl
  elements_back (element d ds) n h = ap₂ element (datainfo_back false d n (omega arith)) (elements_back ds n (omega arith))

  fields_back : (fs : Fields) (n : ℕ) → fields_levels fs ≤ n → fields_from (datainfo_of n) (field_values fs) ≡ enforced_fields fs
  fields_back no_fields n h = refl
  fields_back (field k d fs) n h = ap₂ (field k) (datainfo_back false d n (omega arith)) (fields_back fs n (omega arith))

-- ## Accessibles, modules, the table: n bounds the levels of datainfos

argument_from : ℕ → Members → Option Datainfo
argument_from n no_members = None
argument_from n (member k v ms) = Some (datainfo_of n v)

-- what follows the first member
others : Members → Members
others no_members = no_members
others (member k v ms) = ms

-- a parameter says whether it is readonly, and a command does not
accessible_of : ℕ → List ℕ → Members → Accessible
accessible_of n k ms =
    cond (same (key_at 1 ms) (bytes "readonly"))
    (parameter (record {
      name = k;
      description = text (at 0 ms);
      readonly = flag (at 1 ms);
      datainfo = datainfo_of n (at 2 ms);
      initial = [];
      place = 0;
    }))
    (command (record { name = k; description = text (at 0 ms); argument = argument_from n (others (members (at 1 ms))) }))

accessibles_from : ℕ → Members → List Accessible
accessibles_from n no_members = []
accessibles_from n (member k v ms) = accessible_of n k (members v) ∷ accessibles_from n ms

module_of : ℕ → List ℕ → Members → Module
module_of n k ms = record { name = k; description = text (at 1 ms); note = None; accessibles = accessibles_from n (members (at 2 ms)) }

modules_from : ℕ → Members → List Module
modules_from n no_members = []
modules_from n (member k v ms) = module_of n k (members v) ∷ modules_from n ms

pub told : ℕ → Json → Table
told n v = record {
  equipment_id = text (at 1 (members v));
  description = text (at 2 (members v));
  edition = None;
  modules = modules_from n (members (at 0 (members v)));
}

-- no less than how many levels the datainfos have
argument_levels : Option Datainfo → ℕ
argument_levels None = 0
argument_levels (Some d) = levels d

accessible_levels : Accessible → ℕ
accessible_levels (parameter p) = levels p.datainfo
accessible_levels (command c) = argument_levels c.argument

accessibles_levels : List Accessible → ℕ
accessibles_levels [] = 0
accessibles_levels (a ∷ l) = accessible_levels a + accessibles_levels l

modules_levels : List Module → ℕ
modules_levels [] = 0
modules_levels (m ∷ ms) = accessibles_levels m.accessibles + modules_levels ms

pub table_levels : Table → ℕ
table_levels t = modules_levels t.modules

argument_back : (o : Option Datainfo) (n : ℕ) → argument_levels o ≤ n → argument_from n (argument_member o) ≡ enforced_argument o
unfolding argument_from argument_member argument_levels enforced_argument
argument_back None n h = refl
argument_back (Some d) n h = ap Some (datainfo_back false d n h)

accessible_back : (a : Accessible) (n : ℕ) → accessible_levels a ≤ n → (ms : Members)
    → accessibles_from n (accessible_member a ms) ≡ enforced_accessible a ∷ accessibles_from n ms
unfolding accessibles_from accessible_member accessible_of accessible_levels enforced_accessible at key_at others same bytes as_object as_string as_boolean
accessible_back (parameter p) n h ms = rw (datainfo_back true p.datainfo n h)
accessible_back (command c) n h ms = rw (argument_back c.argument n h)

accessibles_back : (l : List Accessible) (n : ℕ) → accessibles_levels l ≤ n
    → accessibles_from n (accessible_members l) ≡ map enforced_accessible l
unfolding accessibles_from accessible_members accessibles_levels
accessibles_back [] n h = refl
accessibles_back (a ∷ l) n h = rw (accessible_back a n (omega arith) (accessible_members l), accessibles_back l n (omega arith))

module_back : (k d : List ℕ) (l : List Accessible) (n : ℕ) → accessibles_levels l ≤ n
    → module_of n k
    (keyed "interface_classes" (Json.array no_items)
    (keyed "description" (Json.string d) (keyed "accessibles" (Json.object (accessible_members l)) no_members)))
    ≡ record { name = k; description = d; note = None; accessibles = map enforced_accessible l }
unfolding module_of at as_object as_string
module_back k d l n h = rw (accessibles_back l n h)

modules_back : (l : List Module) (n : ℕ) → modules_levels l ≤ n → modules_from n (module_members l) ≡ map enforced_module l
unfolding modules_from module_members modules_levels enforced_module as_object
modules_back [] n h = refl
modules_back (m ∷ l) n h =
    ap₂ (λ (x : Module) (xs : List Module). x ∷ xs)
    (module_back m.name m.description m.accessibles n (omega arith)) (modules_back l n (omega arith))

pub told_back : (t : Table) (n : ℕ) → table_levels t ≤ n → told n (report_value t) ≡ enforced t
unfolding told report_value table_levels enforced at as_object as_string
told_back t n h = rw (modules_back t.modules n h)
