-- Every datainfo of a table that can be read, and whose names are good, is one of which the theorems of stored forms speak; and the text of its
-- edition is no longer than the table. Assumes nothing.
use Rattle.std.specs.Prelude.{Option, Some, None}
use Prim.Native.Nat.{ℕ, zero, suc, ◌≤◌}
use mathlib.Core.Bool.{Bool, true, false, ◌&&◌, ◌||◌}
use mathlib.Core.List.{List, [], ◌∷◌, map}
use mathlib.Core.Path.{◌≡◌, refl, subst}
use native.Mathlib.Omega.{arith}
use lib.Dec.{leb, eqb}
use borrow.Author.Tests.{leb-true}
use lib.ListN.{length, length-take, length-drop}
use Rattle.ascii.specs.Text.{bytes}
use Rattle.ascii.specs.Bytes.{all, after, part}
use Rattle.ascii.specs.Names.{is_text}
use Rattle.ascii.specs.Numbers.{unsigned}
use Rattle.ascii.proofs.Lists.{both}
use Rattle.json_text.proofs.ReadAgain.{Of, failed, gave, of_cond, of_case, of_bind, of_some}
use Rattle.datainfo.specs.Datainfo.{Datainfo}
use Rattle.datainfo.specs.Layout.{counted, datainfo_in, datainfo_at}
use Rattle.datainfo.specs.Rules as Datainfo
use Rattle.datainfo.specs.Rules.{good_names}
use Rattle.form.specs.Theorems.{InTable}
use Rattle.form.proofs.Short.{anything}
use Rattle.table.specs.Table.{Parameter, Command, Accessible, parameter, command, Module, Table}
use Rattle.table.specs.Layout.{begins, flag, parameter_at, argument_at, command_at, accessibles_at, note_at, marked_at, module_at, modules_at, head_at, whole_table, read_table}
use Rattle.table.specs.Rules.{accessible_name, if_any, note_good, accessible_names_good, module_names_good}
use Rattle.table.specs.Search.{Placed, parameters_of, commands_of, placed_from}
use Rattle.sound.proofs.Lists.{Each, each_append, each_map}

-- ## What is read

-- d was read from bytes
pub record Lies (d : Datainfo) : Type 0 where
  pub bytes : List ℕ
  pub left : List ℕ
  pub read : datainfo_in 4 bytes ≡ Some (d, left)

abbrev AllLie : Accessible → Type 0
AllLie (parameter p) = Lies p.datainfo
AllLie (command c) = (d : Datainfo) → c.argument ≡ Some d → Lies d

abbrev pub ModuleLies : Module → Type 0
ModuleLies m = Each AllLie m.accessibles

datainfo_lies : (xs : List ℕ) → Of (λ p. Lies p.0) (datainfo_at xs)
datainfo_lies xs = go (datainfo_in 4 xs) refl
  where
    go : (o : Option (Datainfo × List ℕ)) → datainfo_in 4 xs ≡ o → Of (λ p. Lies p.0) o
    go None e = failed
    go (Some p) e = gave (record { bytes = xs; left = p.1; read = e })

no_argument : (d : Datainfo) → ◌≡◌ {A = Option Datainfo} None (Some d) → Lies d
no_argument d e = let z : ◌≡◌ {A = ℕ} 0 1 = cc in absurd (omega arith)

one_argument : (i : Datainfo) → Lies i → (d : Datainfo) → Some i ≡ Some d → Lies d
one_argument i h d e = let z : i ≡ d = cc in subst Lies z h

parameter_lies : (n : ℕ) (xs : List ℕ) → Of (λ p. AllLie p.0) (parameter_at n xs)
unfolding parameter_at
parameter_lies n xs =
    of_bind (anything (after (bytes "PA") xs)) λ a _. of_bind (anything (counted a)) λ b _. of_bind (anything (counted b.1)) λ c _.
    of_bind (anything (flag c.1)) λ d _. of_bind (datainfo_lies d.1) λ e h. of_bind (anything (unsigned 2 e.1)) λ f _.
    of_bind (anything (part f.0 f.1)) λ g _. gave h

argument_lies : (b : Bool) (xs : List ℕ) → Of (λ p. (d : Datainfo) → p.0 ≡ Some d → Lies d) (argument_at b xs)
unfolding argument_at
argument_lies false xs = gave no_argument
argument_lies true xs = of_bind (datainfo_lies xs) λ p h. gave (one_argument p.0 h)

command_lies : (xs : List ℕ) → Of (λ p. AllLie p.0) (command_at xs)
unfolding command_at
command_lies xs =
    of_bind (anything (after (bytes "CM") xs)) λ a _. of_bind (anything (counted a)) λ b _. of_bind (anything (counted b.1)) λ c _.
    of_bind (anything (flag c.1)) λ d _. of_bind (argument_lies d.0 d.1) λ e h. gave h

accessibles_lie : (n k : ℕ) (xs : List ℕ) → Of (λ p. Each AllLie p.0) (accessibles_at n k xs)
unfolding accessibles_at
accessibles_lie n zero xs = gave tt
accessibles_lie n (suc k) xs =
    of_cond (begins (bytes "PA") xs || begins (bytes "CM") xs)
    (of_bind (of_cond {P = λ p. AllLie p.0} (begins (bytes "PA") xs) (parameter_lies n xs) (command_lies xs)) λ p h.
    of_bind (accessibles_lie n k p.1) λ q i. gave (h, i))
    (gave tt)

module_lies : (n : ℕ) (xs : List ℕ) → Of (λ p. ModuleLies p.0) (module_at n xs)
unfolding module_at
module_lies n xs =
    of_bind (anything (after (bytes "MO") xs)) λ a _. of_bind (anything (counted a)) λ b _. of_bind (anything (counted b.1)) λ c _.
    of_bind (anything (note_at c.1)) λ d _. of_bind (accessibles_lie n (length d.1) d.1) λ e h. gave h

modules_lie : (n k : ℕ) (xs : List ℕ) → Of (λ p. Each ModuleLies p.0) (modules_at n k xs)
unfolding modules_at
modules_lie n zero xs = gave tt
modules_lie n (suc k) xs =
    of_cond (begins (bytes "MO") xs) (of_bind (module_lies n xs) λ p h. of_bind (modules_lie n k p.1) λ q i. gave (h, i)) (gave tt)

whole_lies : (xs : List ℕ) → Of (λ w. Each ModuleLies w.modules) (whole_table xs)
unfolding whole_table
whole_lies xs =
    of_bind (anything (head_at xs)) λ a _. of_bind (modules_lie (length xs) (length a.1) a.1) λ b h.
    of_bind (anything (after (bytes "EN") b.1)) λ c _. of_cond (eqb (length c) 0) (gave h) failed

pub table_lies : (xs : List ℕ) (w : Table) → read_table xs ≡ Some w → Each ModuleLies w.modules
unfolding read_table
table_lies xs w e = of_some (rw e at (of_cond {P = λ (w : Table). Each ModuleLies w.modules} (leb (length xs) 16384) (whole_lies xs) failed))

-- ## The text of the edition

-- what is left of n bytes or less, and a text among them
abbrev Left : {A : Type 0} → ℕ → A × List ℕ → Type 0
Left n p = length p.1 ≤ n

abbrev pub Within : ℕ → Option (List ℕ) → Type 0
Within n None = Unit {0}
Within n (Some x) = length x ≤ n

module _ (n : ℕ) where
  after_left : (m xs : List ℕ) → length xs ≤ n → Of (λ r. length r ≤ n) (after m xs)
  unfolding after
  after_left [] xs h = gave h
  after_left (w ∷ ws) [] h = failed
  after_left (w ∷ ws) (x ∷ xs) h = of_cond (eqb x w) (after_left ws xs (omega arith)) failed

  part_left : (k : ℕ) (xs : List ℕ) → length xs ≤ n → Of (λ p. (length p.0 ≤ n) × Left n p) (part k xs)
  unfolding part
  part_left k xs h = of_cond (leb k (length xs)) (gave (rw length-take (omega arith), rw length-drop (omega arith))) failed

  size_left : (xs : List ℕ) → length xs ≤ n → Of (λ p. Left n p) (unsigned 1 xs)
  unfolding unsigned
  size_left xs h = of_bind (part_left 1 xs h) λ p q. gave q.1

  counted_left : (xs : List ℕ) → length xs ≤ n → Of (λ p. (length p.0 ≤ n) × Left n p) (counted xs)
  unfolding counted
  counted_left xs h = of_bind (size_left xs h) λ p q. part_left p.0 p.1 q

  marked_left : (m xs : List ℕ) → length xs ≤ n → Of (λ p. Within n p.0) (marked_at m xs)
  unfolding marked_at
  marked_left m xs h =
      of_cond (begins m xs) (of_bind (after_left m xs h) λ a q. of_bind (counted_left a q) λ p k. gave k.0) (gave tt)

  head_left : (xs : List ℕ) → length xs ≤ n → Of (λ p. Within n p.0.edition) (head_at xs)
  unfolding head_at
  head_left xs h =
      of_bind (after_left (bytes "ND") xs h) λ a q. of_bind (counted_left a q) λ b k. of_bind (counted_left b.1 k.1) λ c l.
      of_bind (marked_left (bytes "ED") c.1 l.1) λ d i. gave i

  whole_left : (xs : List ℕ) → length xs ≤ n → Of (λ w. Within n w.edition) (whole_table xs)
  unfolding whole_table
  whole_left xs h =
      of_bind (head_left xs h) λ a i. of_bind (anything (modules_at (length xs) (length a.1) a.1)) λ b _.
      of_bind (anything (after (bytes "EN") b.1)) λ c _. of_cond (eqb (length c) 0) (gave i) failed

pub edition_within : (xs : List ℕ) (w : Table) → read_table xs ≡ Some w → Within 16384 w.edition
unfolding read_table
edition_within xs w e =
    of_some (rw e at (of_case {P = λ (w : Table). Within 16384 w.edition} (leb (length xs) 16384)
    (λ h. whole_left 16384 xs (leb-true (length xs) 16384 h)) (λ h. failed)))

-- ## With good names

abbrev InTableOf : Accessible → Type 0
InTableOf (parameter p) = InTable p.datainfo
InTableOf (command c) = (d : Datainfo) → c.argument ≡ Some d → InTable d

in_table : (d : Datainfo) → Lies d → Datainfo.names_good d ≡ true → InTable d
in_table d l e = record { levels = 4; bytes = l.bytes; left = l.left; read = l.read; names = e }

accessible_in : (a : Accessible) → AllLie a → accessible_names_good a ≡ true → InTableOf a
unfolding accessible_names_good if_any
accessible_in (parameter p) l e = in_table p.datainfo l (both (is_text p.description) (Datainfo.names_good p.datainfo) e).1
accessible_in (command c) l e = λ d q.
    in_table d (l d q) (rw q at (both (is_text c.description) (if_any Datainfo.names_good c.argument) e).1)

accessibles_in : (l : List Accessible) → Each AllLie l → all accessible_names_good l ≡ true → Each InTableOf l
unfolding all
accessibles_in [] h e = tt
accessibles_in (a ∷ l) h e =
    let p = both (accessible_names_good a) (all accessible_names_good l) e in
    (accessible_in a h.0 p.0, accessibles_in l h.1 p.1)

abbrev pub ModuleIn : Module → Type 0
ModuleIn m = Each InTableOf m.accessibles

pub modules_in : (ms : List Module) → Each ModuleLies ms → all module_names_good ms ≡ true → Each ModuleIn ms
unfolding all module_names_good
modules_in [] h e = tt
modules_in (m ∷ ms) h e =
    let p = both (module_names_good m) (all module_names_good ms) e in
    let names = good_names (map accessible_name m.accessibles) in
    let q = both (is_text m.description && note_good m.note && names) (all accessible_names_good m.accessibles) p.0 in
    (accessibles_in m.accessibles h.0 q.1, modules_in ms h.1 p.1)

-- ## Parameters and commands

module _ {A : Type 0} (of : List Accessible → List A) (P : A → Type 0) (f : (l : List Accessible) → Each InTableOf l → Each P (of l)) where
  placed_in : (n : ℕ) (ms : List Module) → Each ModuleIn ms → Each (λ (p : Placed A). P p.it) (placed_from of n ms)
  unfolding placed_from
  placed_in n [] h = tt
  placed_in n (m ∷ ms) h =
      let place : A → Placed A = λ a. record { home = n; module_name = m.name; it = a } in
      each_append (λ (p : Placed A). P p.it) (map place (of m.accessibles)) (placed_from of (suc n) ms)
      (each_map (λ (p : Placed A). P p.it) place (of m.accessibles) (f m.accessibles h.0))
      (placed_in (suc n) ms h.1)

abbrev pub ParameterIn : Parameter → Type 0
ParameterIn p = InTable p.datainfo

abbrev pub CommandIn : Command → Type 0
CommandIn c = (d : Datainfo) → c.argument ≡ Some d → InTable d

parameters_each : (l : List Accessible) → Each InTableOf l → Each ParameterIn (parameters_of l)
unfolding parameters_of
parameters_each [] h = tt
parameters_each (parameter p ∷ l) h = (h.0, parameters_each l h.1)
parameters_each (command c ∷ l) h = parameters_each l h.1

commands_each : (l : List Accessible) → Each InTableOf l → Each CommandIn (commands_of l)
unfolding commands_of
commands_each [] h = tt
commands_each (parameter p ∷ l) h = commands_each l h.1
commands_each (command c ∷ l) h = (h.0, commands_each l h.1)

pub parameters_in_lem : (ms : List Module) → Each ModuleIn ms → Each (λ (p : Placed Parameter). ParameterIn p.it) (placed_from parameters_of 0 ms)
parameters_in_lem ms h = placed_in parameters_of ParameterIn parameters_each 0 ms h

pub commands_in_lem : (ms : List Module) → Each ModuleIn ms → Each (λ (p : Placed Command). CommandIn p.it) (placed_from commands_of 0 ms)
commands_in_lem ms h = placed_in commands_of CommandIn commands_each 0 ms h
