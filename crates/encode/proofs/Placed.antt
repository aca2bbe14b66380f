-- Places make no difference to the number of a table. Assumes nothing.
use Prim.Native.Nat.{ℕ, suc, ◌+◌}
use mathlib.Core.Path.{◌≡◌, refl, ap, ap₂}
use mathlib.Core.Bool.{Bool, ◌&&◌}
use mathlib.Core.List.{List, [], ◌∷◌, map}
use lib.Dec.{leb}
use lib.ListN.{length}
use Rattle.ascii.specs.Bytes.{all}
use Rattle.ascii.specs.Names.{is_text}
use Rattle.datainfo.specs.Rules.{is_between, good_names}
use Rattle.table.specs.Table.{Accessible, parameter, command, Module, Table}
use Rattle.table.specs.Rules.{accessible_name, accessible_count, counts_good, note_good, accessible_names_good, module_names_good, edition_good, names_good, rules_kept}
use Rattle.table.specs.Rules.{initial_good, datainfos_good, initials_good}
use Rattle.report.specs.Report.{accessible_member, accessible_members, module_members, report_value, report}
use Rattle.report.specs.Judge.{tree_number}
use Rattle.encode.specs.Encode.{accessible_bytes, heading_bytes, module_bytes, head_bytes, placed_accessible, placed_accessibles, placed_module, placed_modules}
use Rattle.encode.specs.Encode.{placed}

-- ## Accessibles

module _ (p : Accessible → Bool) (same : (n : ℕ) (a : Accessible) → p (placed_accessible n a) ≡ p a) where
  all_placed : (n : ℕ) (l : List Accessible) → all p (placed_accessibles n l) ≡ all p l
  unfolding all placed_accessibles
  all_placed n [] = refl
  all_placed n (a ∷ l) = ap₂ ◌&&◌ (same n a) (all_placed (n + length (accessible_bytes a)) l)

names_placed : (n : ℕ) (l : List Accessible) → map accessible_name (placed_accessibles n l) ≡ map accessible_name l
unfolding placed_accessibles placed_accessible accessible_name
names_placed n [] = refl
names_placed n (parameter p ∷ l) = ap (λ (ks : List (List ℕ)). p.name ∷ ks) (names_placed (n + length (accessible_bytes (parameter p))) l)
names_placed n (command c ∷ l) = ap (λ (ks : List (List ℕ)). c.name ∷ ks) (names_placed (n + length (accessible_bytes (command c))) l)

count_placed : (n : ℕ) (l : List Accessible) → length (placed_accessibles n l) ≡ length l
unfolding placed_accessibles
count_placed n [] = refl
count_placed n (a ∷ l) = ap suc (count_placed (n + length (accessible_bytes a)) l)

members_placed : (n : ℕ) (l : List Accessible) → accessible_members (placed_accessibles n l) ≡ accessible_members l
unfolding accessible_members accessible_member placed_accessibles placed_accessible
members_placed n [] = refl
members_placed n (parameter p ∷ l) = ap (accessible_member (parameter p)) (members_placed (n + length (accessible_bytes (parameter p))) l)
members_placed n (command c ∷ l) = ap (accessible_member (command c)) (members_placed (n + length (accessible_bytes (command c))) l)

good_names_lem : (n : ℕ) (a : Accessible) → accessible_names_good (placed_accessible n a) ≡ accessible_names_good a
unfolding placed_accessible accessible_names_good
good_names_lem n (parameter p) = refl
good_names_lem n (command c) = refl

kept : (n : ℕ) (a : Accessible) → rules_kept (placed_accessible n a) ≡ rules_kept a
unfolding placed_accessible rules_kept
kept n (parameter p) = refl
kept n (command c) = refl

initial : (n : ℕ) (a : Accessible) → initial_good (placed_accessible n a) ≡ initial_good a
unfolding placed_accessible initial_good
initial n (parameter p) = refl
initial n (command c) = refl

-- ## Modules

module _ (p : Module → Bool) (same : (n : ℕ) (m : Module) → p (placed_module n m) ≡ p m) where
  all_modules_lem : (n : ℕ) (ms : List Module) → all p (placed_modules n ms) ≡ all p ms
  unfolding all placed_modules
  all_modules_lem n [] = refl
  all_modules_lem n (m ∷ ms) = ap₂ ◌&&◌ (same n m) (all_modules_lem (n + length (module_bytes m)) ms)

module_names : (n : ℕ) (ms : List Module) → map (λ (m : Module). m.name) (placed_modules n ms) ≡ map (λ (m : Module). m.name) ms
unfolding placed_modules placed_module
module_names n [] = refl
module_names n (m ∷ ms) = ap (λ (ks : List (List ℕ)). m.name ∷ ks) (module_names (n + length (module_bytes m)) ms)

module_count : (n : ℕ) (ms : List Module) → length (placed_modules n ms) ≡ length ms
unfolding placed_modules
module_count n [] = refl
module_count n (m ∷ ms) = ap suc (module_count (n + length (module_bytes m)) ms)

counts : (n : ℕ) (ms : List Module) → accessible_count (placed_modules n ms) ≡ accessible_count ms
unfolding accessible_count placed_modules placed_module
counts n [] = refl
counts n (m ∷ ms) = ap₂ ◌+◌ (count_placed (n + length (heading_bytes m)) m.accessibles) (counts (n + length (module_bytes m)) ms)

module_good : (n : ℕ) (m : Module) → module_names_good (placed_module n m) ≡ module_names_good m
unfolding module_names_good placed_module
module_good n m =
    ap₂ (λ (ks : List (List ℕ)) (b : Bool). is_text m.description && note_good m.note && good_names ks && b)
    (names_placed (n + length (heading_bytes m)) m.accessibles)
    (all_placed accessible_names_good good_names_lem (n + length (heading_bytes m)) m.accessibles)

module_kept : (n : ℕ) (m : Module) → all rules_kept (placed_module n m).accessibles ≡ all rules_kept m.accessibles
unfolding placed_module
module_kept n m = all_placed rules_kept kept (n + length (heading_bytes m)) m.accessibles

module_initials : (n : ℕ) (m : Module) → all initial_good (placed_module n m).accessibles ≡ all initial_good m.accessibles
unfolding placed_module
module_initials n m = all_placed initial_good initial (n + length (heading_bytes m)) m.accessibles

modules_told : (n : ℕ) (ms : List Module) → module_members (placed_modules n ms) ≡ module_members ms
unfolding module_members placed_modules placed_module
modules_told n [] = refl
modules_told n (m ∷ ms) = rw (members_placed (n + length (heading_bytes m)) m.accessibles, modules_told (n + length (module_bytes m)) ms)

-- ## The table

module _ (t : Table) where
  counts_placed : counts_good (placed t) ≡ counts_good t
  unfolding counts_good placed
  counts_placed =
      let n = length (head_bytes t) in
      ap₂ (λ (a b : ℕ). is_between 1 16 a && leb b 64) (module_count n t.modules) (counts n t.modules)

  table_names : names_good (placed t) ≡ names_good t
  unfolding names_good placed
  table_names =
      let n = length (head_bytes t) in
      ap₂ (λ (ks : List (List ℕ)) (b : Bool). is_text t.equipment_id && is_text t.description && edition_good t.edition && good_names ks && b)
      (module_names n t.modules) (all_modules_lem module_names_good module_good n t.modules)

  table_kept : datainfos_good (placed t) ≡ datainfos_good t
  unfolding datainfos_good placed
  table_kept = all_modules_lem (λ (m : Module). all rules_kept m.accessibles) module_kept (length (head_bytes t)) t.modules

  table_initials : initials_good (placed t) ≡ initials_good t
  unfolding initials_good placed
  table_initials = all_modules_lem (λ (m : Module). all initial_good m.accessibles) module_initials (length (head_bytes t)) t.modules

  told_placed : report (placed t) ≡ report t
  unfolding report report_value placed
  told_placed = rw (modules_told (length (head_bytes t)) t.modules)

  pub number_placed : tree_number (placed t) ≡ tree_number t
  unfolding tree_number
  number_placed = rw (counts_placed, table_names, table_kept, table_initials, told_placed)
