-- What an accepted call says of its table and its time, and what an accepted table says of its parameters and commands.
-- Assumes nothing.
use Rattle.std.specs.Prelude.{Option, Some, None}
use Prim.Native.Nat.{ℕ, suc, ◌≤◌}
use mathlib.Core.Bool.{true, not, ◌&&◌}
use mathlib.Core.List.{List, [], ◌∷◌, map}
use mathlib.Core.Path.{◌≡◌, refl}
use native.Mathlib.Omega.{arith}
use lib.Dec.{leb, ltb}
use lib.ListN.{length, length-append, length-map}
use borrow.Author.Tests.{leb-true, ltb-false, not-false}
use Rattle.ascii.specs.Text.{bytes}
use Rattle.ascii.specs.Bytes.{all}
use Rattle.ascii.specs.Names.{is_name, is_text, unique}
use Rattle.ascii.specs.Numbers.{latest}
use Rattle.ascii.proofs.Lists.{both}
use Rattle.datainfo.specs.Rules.{is_between, good_names}
use Rattle.fit.specs.Fit.{is_stored}
use Rattle.table.specs.Table.{Parameter, Command, Accessible, parameter, command, Module, Table}
use Rattle.table.specs.Layout.{begins, read_table, or_empty, table_of}
use Rattle.table.specs.Rules.{accessible_name, accessible_count, counts_good, note_good, accessible_names_good, module_names_good, edition_good, names_good, initial_good, initials_good}
use Rattle.table.specs.Search.{Placed, parameters_of, commands_of, placed_from, parameters, commands}
use Rattle.report.specs.Report.{report}
use Rattle.report.specs.Judge.{tree_number, number_of, table_number}
use Rattle.report.proofs.Faults.{no_fault, first_fault_none}
use Rattle.plain.specs.Calls.{fault10, fault11}
use Rattle.sound.specs.Theorems.{DatainfosInTable}
use Rattle.sound.proofs.Tabled.{ModuleLies, ParameterIn, CommandIn, table_lies, Within, edition_within, modules_in, parameters_in_lem, commands_in_lem}
use Rattle.sound.proofs.Lists.{Each, each_at, each_append, each_both, each_all, each_map, map_each}

-- ## Numbers

pub client_low : (c : ℕ) → fault11 c ≡ 0 → c ≤ 7
client_low c e = ltb-false 7 c (no_fault 10 (ltb 7 c) e)

pub time_low : (t : ℕ) → fault10 t ≡ 0 → t ≤ latest
time_low t e = ltb-false latest t (no_fault 9 (ltb latest t) e)

-- ## Parameters and commands

-- good names, of a module and of what it has
abbrev pub GoodNames : List ℕ → List ℕ → Type 0
GoodNames m a = (is_name m ≡ true) × (is_name a ≡ true)

abbrev GoodAccessible : Accessible → Type 0
GoodAccessible a = (is_name (accessible_name a) ≡ true) × (initial_good a ≡ true)

abbrev pub GoodModule : Module → Type 0
GoodModule m = (is_name m.name ≡ true) × Each GoodAccessible m.accessibles

abbrev pub GoodParameter : Placed Parameter → Type 0
GoodParameter p = GoodNames p.module_name p.it.name × (is_stored p.it.datainfo p.it.initial ≡ true)

abbrev pub GoodCommand : Placed Command → Type 0
GoodCommand p = GoodNames p.module_name p.it.name

-- of what `of` takes out of a module's accessibles
module _ {A : Type 0} (of : List Accessible → List A) where
  placed : (P : Placed A → Type 0)
      → ((n : ℕ) (name : List ℕ) → is_name name ≡ true → (l : List Accessible) → Each GoodAccessible l
      → Each (λ (a : A). P (record { home = n; module_name = name; it = a })) (of l))
      → (n : ℕ) (ms : List Module) → Each GoodModule ms → Each P (placed_from of n ms)
  unfolding placed_from
  placed P f n [] h = tt
  placed P f n (m ∷ ms) h =
      let place : A → Placed A = λ a. record { home = n; module_name = m.name; it = a } in
      each_append P (map place (of m.accessibles)) (placed_from of (suc n) ms)
      (each_map P place (of m.accessibles) (f n m.name h.0.0 m.accessibles h.0.1))
      (placed P f (suc n) ms h.1)

  placed_count : ((l : List Accessible) → length (of l) ≤ length l)
      → (n : ℕ) (ms : List Module) → length (placed_from of n ms) ≤ accessible_count ms
  unfolding placed_from accessible_count
  placed_count f n [] = omega arith
  placed_count f n (m ∷ ms) =
      simp (length-append, length-map) (omega (arith, f m.accessibles, placed_count f (suc n) ms))

parameters_count : (l : List Accessible) → length (parameters_of l) ≤ length l
unfolding parameters_of
parameters_count [] = omega arith
parameters_count (parameter p ∷ l) = omega (arith, parameters_count l)
parameters_count (command c ∷ l) = omega (arith, parameters_count l)

commands_count : (l : List Accessible) → length (commands_of l) ≤ length l
unfolding commands_of
commands_count [] = omega arith
commands_count (parameter p ∷ l) = omega (arith, commands_count l)
commands_count (command c ∷ l) = omega (arith, commands_count l)

parameters_good : (n : ℕ) (name : List ℕ) → is_name name ≡ true → (l : List Accessible) → Each GoodAccessible l
    → Each (λ (a : Parameter). GoodParameter (record { home = n; module_name = name; it = a })) (parameters_of l)
unfolding parameters_of accessible_name initial_good
parameters_good n name e [] h = tt
parameters_good n name e (parameter p ∷ l) h = (((e, h.0.0), h.0.1), parameters_good n name e l h.1)
parameters_good n name e (command c ∷ l) h = parameters_good n name e l h.1

commands_good : (n : ℕ) (name : List ℕ) → is_name name ≡ true → (l : List Accessible) → Each GoodAccessible l
    → Each (λ (a : Command). GoodCommand (record { home = n; module_name = name; it = a })) (commands_of l)
unfolding commands_of accessible_name
commands_good n name e [] h = tt
commands_good n name e (parameter p ∷ l) h = commands_good n name e l h.1
commands_good n name e (command c ∷ l) h = ((e, h.0.0), commands_good n name e l h.1)

-- ## Editions

-- a text that begins as an edition has to, and is no longer than a table
pub record GoodText (x : List ℕ) : Type 0 where
  pub text : is_text x ≡ true
  pub begun : begins (bytes "ISSE,SECoP,") x ≡ true
  pub short : length x ≤ 16384

abbrev pub GoodEdition : Option (List ℕ) → Type 0
GoodEdition None = Unit {0}
GoodEdition (Some x) = GoodText x

good_edition : (o : Option (List ℕ)) → Within 16384 o → edition_good o ≡ true → GoodEdition o
unfolding edition_good
good_edition None h e = tt
good_edition (Some x) h e =
    let b = both (is_text x) (begins (bytes "ISSE,SECoP,") x) e in
    record { text = b.0; begun = b.1; short = h }

-- ## Accepted tables

pub record Accepted (w : Table) : Type 0 where
  pub names : names_good w ≡ true
  pub edition : GoodEdition w.edition
  pub all_modules : Each GoodModule w.modules
  pub few_modules : length w.modules ≤ 16
  pub all_parameters : Each GoodParameter (parameters w)
  pub all_commands : Each GoodCommand (commands w)
  pub few : length (parameters w) ≤ 64
  pub few_commands : length (commands w) ≤ 64
  pub short : length (report w) ≤ 32000
  -- their datainfos are in the table
  pub parameters_in : Each (λ (p : Placed Parameter). ParameterIn p.it) (parameters w)
  pub commands_in : Each (λ (p : Placed Command). CommandIn p.it) (commands w)

good_module_lem : (m : Module) → is_name m.name ≡ true → module_names_good m ≡ true → all initial_good m.accessibles ≡ true
    → GoodModule m
unfolding module_names_good good_names
good_module_lem m e f g =
    let l = m.accessibles in
    let names = map accessible_name l in
    let a = (both (is_text m.description && note_good m.note && (all is_name names && unique names)) (all accessible_names_good l) f).0 in
    let b = (both (is_text m.description && note_good m.note) (all is_name names && unique names) a).1 in
    let c = (both (all is_name names) (unique names) b).0 in
    let named = map_each (λ k. is_name k ≡ true) accessible_name l (each_all is_name names c) in
    (e, each_both (λ a. is_name (accessible_name a) ≡ true) (λ a. initial_good a ≡ true) l named (each_all initial_good l g))

good_modules : (ms : List Module) → all is_name (map (λ (m : Module). m.name) ms) ≡ true → all module_names_good ms ≡ true
    → all (λ (m : Module). all initial_good m.accessibles) ms ≡ true → Each GoodModule ms
unfolding all
good_modules [] e f g = tt
good_modules (m ∷ ms) e f g =
    let a = both (is_name m.name) (all is_name (map (λ (m : Module). m.name) ms)) e in
    let b = both (module_names_good m) (all module_names_good ms) f in
    let c = both (all initial_good m.accessibles) (all (λ (m : Module). all initial_good m.accessibles) ms) g in
    (good_module_lem m a.0 b.0 c.0, good_modules ms a.1 b.1 c.1)

accepted_tree : (w : Table) → Each ModuleLies w.modules → Within 16384 w.edition → tree_number w ≡ 0 → Accepted w
unfolding tree_number counts_good names_good good_names initials_good parameters commands is_between
accepted_tree w lies short e =
    let none_of = first_fault_none _ e in
    let h2 = not-false (counts_good w) (no_fault 1 (not (counts_good w)) (none_of 0)) in
    let h3 = not-false (names_good w) (no_fault 2 (not (names_good w)) (none_of 1)) in
    let h5 = not-false (initials_good w) (no_fault 4 (not (initials_good w)) (none_of 3)) in
    let h6 = no_fault 5 (ltb 32000 (length (report w))) (none_of 4) in
    let names = map (λ (m : Module). m.name) w.modules in
    let texts = is_text w.equipment_id && is_text w.description && edition_good w.edition in
    let c = both (is_between 1 16 (length w.modules)) (leb (accessible_count w.modules) 64) h2 in
    let a = both (texts && (all is_name names && unique names)) (all module_names_good w.modules) h3 in
    let b = both texts (all is_name names && unique names) a.0 in
    let d = both (all is_name names) (unique names) b.1 in
    let ms = good_modules w.modules d.0 a.1 h5 in
    let tabled = modules_in w.modules lies a.1 in
    let between = both (leb 1 (length w.modules)) (leb (length w.modules) 16) c.0 in
    record {
      names = h3;
      edition = good_edition w.edition short (both (is_text w.equipment_id && is_text w.description) (edition_good w.edition) b.0).1;
      all_modules = ms;
      few_modules = leb-true (length w.modules) 16 between.1;
      all_parameters = placed parameters_of GoodParameter parameters_good 0 w.modules ms;
      all_commands = placed commands_of GoodCommand commands_good 0 w.modules ms;
      few = omega (arith, placed_count parameters_of parameters_count 0 w.modules, leb-true (accessible_count w.modules) 64 c.1);
      few_commands = omega (arith, placed_count commands_of commands_count 0 w.modules, leb-true (accessible_count w.modules) 64 c.1);
      short = ltb-false 32000 (length (report w)) h6;
      parameters_in = parameters_in_lem w.modules tabled;
      commands_in = commands_in_lem w.modules tabled;
    }

pub accepted : (table : List ℕ) → table_number table ≡ 0 → Accepted (table_of table)
unfolding table_number table_of number_of or_empty
accepted table e = go (read_table table) refl e
  where
    go : (o : Option Table) → read_table table ≡ o → number_of o ≡ 0 → Accepted (or_empty o)
    go None q e = absurd (omega arith)
    go (Some w) q e = accepted_tree w (table_lies table w q) (edition_within table w q) e

pub datainfos_in_table : DatainfosInTable
datainfos_in_table = record {
  of_parameters = λ table e k p q. each_at (λ (p : Placed Parameter). ParameterIn p.it) (parameters (table_of table)) (accepted table e).parameters_in k p q;
  of_arguments = λ table e k c q. each_at (λ (c : Placed Command). CommandIn c.it) (commands (table_of table)) (accepted table e).commands_in k c q;
}
