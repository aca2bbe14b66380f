-- Laws of walks over all accessibles of a table, one for each way through a function. Assumes nothing.
use Rattle.std.specs.Prelude.{Option, Some, None, slice_get}
use Prim.Native.Nat.{ℕ, ◌+◌, ◌-◌, ◌≤◌, ◌<◌}
use native.Mathlib.Omega.{arith}
use mathlib.Core.Path.{◌≡◌, refl, sym, ap, ◌∙◌}
use mathlib.Core.List.{List, []}
use lib.ListN.{length, drop}
use Rattle.table.specs.Table as Table
use Rattle.table.specs.Layout.{table_of}
use Rattle.table.specs.Rules.{accessible_name}
use Rattle.table.specs.Search.{parameters_of, commands_of, parameters, commands}
use Rattle.table.specs.Clauses.At.{bytes_of, Inside, parameter_of, command_of}
use Rattle.table.specs.declared.layout.Part.{Part}
use Rattle.table.specs.declared.layout.ParameterAt.{ParameterAt}
use Rattle.table.specs.declared.layout.CommandAt.{CommandAt}
use Rattle.table.proofs.Accessibles.{in_some}
use Rattle.search.specs.declared.cursor.Cursor.{Cursor}
use Rattle.table.specs.declared.layout.Accessible as O
use Rattle.search.specs.Clauses.Left.{accessibles_left, left_from, accessibles_of, name_of, After, FirstIs, Goes, FirstCursor}
use Rattle.search.specs.Clauses.Left.{ParameterFirst, CommandFirst, OneFirst, NextAccessibleIs}
use Rattle.search.proofs.Lefts.{way_left}
use Rattle.search.proofs.Walks.{picks_parameters, picks_commands, picks_first, picks_past}
use Rattle.search.proofs.Finds.{Counted, counted_end, counted_at, counted_left, drop_at, drop_past}
use Rattle.index.specs.Accessibles.{accessibles}
use Rattle.seek.specs.declared.walk.Walk.{Walk}
use Rattle.seek.specs.Clauses.Walk.{Passed, ParameterThere, CommandThere, OneThere, next_of, There, Begins, Stepped, StepIs}
use Rattle.seek.proofs.Lists.{none_later}
use Rattle.table.specs.declared.layout.Accessible.{Accessible}

-- ## The beginning

module _ (s : List ℕ) (c : Cursor) (f : FirstCursor s c) where
  none_own : f.way.own ≡ []
  unfolding accessibles_left
  none_own =
      let e : accessibles_left s c ≡ Some ([], drop c.at s) = rw f.modules in
      ap (λ (x : List Table.Accessible × List ℕ). x.0) (in_some (sym f.way.reads ∙ e))

  all_left : left_from accessibles_of s c ≡ Some (accessibles (table_of s))
  unfolding accessibles
  all_left = way_left s c f.way ∙ rw (none_own, f.modules)

  pub walk_begins : Begins s (record { cursor = c; accessibles = 0; parameters = 0; commands = 0 })
  walk_begins =
      record {
        passed =
            record {
              way = f.way;
              few = (omega arith, (omega arith, omega arith));
              all = all_left;
              of_parameters = f.parameters;
              of_commands = f.commands;
            };
        none_yet = refl;
      }

-- ## A step

one_after : (s : List ℕ) (c : Cursor) (a : O.Accessible) (e : Cursor) → OneFirst s c a e → After s c e
one_after s c (O.TheVariants.Parameter q) e x = x.after
one_after s c (O.TheVariants.Command q) e x = x.after

module _ (s : List ℕ) (w : Walk) (h : Passed s w) where
  abbrev c : Cursor
  c = w.cursor

  counted : Counted accessibles_of accessibles s w.accessibles c
  counted = record { way = h.way; few = h.few.0; left = h.all }

  counted_parameters : Counted parameters_of parameters s w.parameters c
  counted_parameters = record { way = h.way; few = h.few.1.0; left = h.of_parameters }

  counted_commands : Counted commands_of commands s w.commands c
  counted_commands = record { way = h.way; few = h.few.1.1; left = h.of_commands }

  -- `it`, of which `one` has the positions, is the first of what is left, and v is the walk after it
  module _ (v : Walk) (z : v.accessibles ≡ w.accessibles + 1) (after : After s c v.cursor) (it : Table.Accessible)
      (first : FirstIs accessibles_of s c v.cursor it) where
    passed :
        (v.parameters ≤ w.parameters + 1) × (v.commands ≤ w.commands + 1)
        → left_from parameters_of s v.cursor ≡ Some (drop v.parameters (parameters (table_of s)))
        → left_from commands_of s v.cursor ≡ Some (drop v.commands (commands (table_of s))) → Passed s v
    passed l p q =
        let f = h.few in
        let y = after.later in
        record {
          way = after.way;
          few = (omega (arith, f.0), (omega (arith, f.1.0, l.0), omega (arith, f.1.1, l.1)));
          all = rw z (counted_left accessibles_of accessibles s w.accessibles c counted v.cursor it first);
          of_parameters = p;
          of_commands = q;
        }

    stepped :
        (one : O.Accessible) → Inside s (name_of one) → accessible_name it ≡ bytes_of s (name_of one) → v.cursor.at ≡ next_of one → OneThere s one v it
        → Passed s v → Stepped s w one v
    stepped one inside name next there passed =
        record {
          there =
              record {
                it = it;
                is =
                    drop_at w.accessibles (accessibles (table_of s)) _ _
                    (counted_at accessibles_of accessibles s w.accessibles c counted v.cursor it first);
                name = inside;
                named = name;
                one = there;
                after = z;
                passed = passed;
                next = next;
                begun = after.begun;
              };
          later = after.later;
        }

  abbrev past_parameter : Cursor → Walk
  past_parameter e = record { cursor = e; accessibles = w.accessibles + 1; parameters = w.parameters + 1; commands = w.commands }

  abbrev past_command : Cursor → Walk
  past_command e = record { cursor = e; accessibles = w.accessibles + 1; parameters = w.parameters; commands = w.commands + 1 }

  module _ (q : ParameterAt) (e : Cursor) (x : ParameterFirst accessibles_of Table.parameter s c q e) where
    abbrev parameter : Table.Parameter
    parameter = parameter_of s q x.held.datainfo

    first_parameter : FirstIs parameters_of s c e parameter
    unfolding parameters_of
    first_parameter = picks_first parameters_of picks_parameters s c e _ x.first parameter refl

    past_commands : Goes commands_of s c e
    unfolding commands_of
    past_commands = picks_past commands_of picks_commands s c e _ x.first refl

    parameter_there : ParameterThere s q (past_parameter e) (Table.parameter parameter)
    parameter_there =
        let n : w.parameters + 1 - 1 ≡ w.parameters = omega arith in
        let there = counted_at parameters_of parameters s w.parameters c counted_parameters e _ first_parameter in
        record { held = x.held; is = refl; some_passed = omega arith; number = rw n (drop_at w.parameters (parameters (table_of s)) _ _ there) }

    parameter_stepped : Stepped s w (O.TheVariants.Parameter q) (past_parameter e)
    unfolding accessible_name parameter_of
    parameter_stepped =
        stepped (past_parameter e) refl x.after _ x.first (O.TheVariants.Parameter q) x.held.name refl x.next parameter_there
        (passed (past_parameter e) refl x.after _ x.first (omega arith, omega arith)
        (counted_left parameters_of parameters s w.parameters c counted_parameters e _ first_parameter)
        (past_commands ∙ h.of_commands))

  module _ (q : CommandAt) (e : Cursor) (x : CommandFirst accessibles_of Table.command s c q e) where
    abbrev command : Table.Command
    command = command_of s q x.held.argument

    first_command : FirstIs commands_of s c e command
    unfolding commands_of
    first_command = picks_first commands_of picks_commands s c e _ x.first command refl

    past_parameters : Goes parameters_of s c e
    unfolding parameters_of
    past_parameters = picks_past parameters_of picks_parameters s c e _ x.first refl

    command_there : CommandThere s q (past_command e) (Table.command command)
    command_there =
        let n : w.commands + 1 - 1 ≡ w.commands = omega arith in
        let there = counted_at commands_of commands s w.commands c counted_commands e _ first_command in
        record { held = x.held; is = refl; some_passed = omega arith; number = rw n (drop_at w.commands (commands (table_of s)) _ _ there) }

    command_stepped : Stepped s w (O.TheVariants.Command q) (past_command e)
    unfolding accessible_name command_of
    command_stepped =
        stepped (past_command e) refl x.after _ x.first (O.TheVariants.Command q) x.held.name refl x.next command_there
        (passed (past_command e) refl x.after _ x.first (omega arith, omega arith)
        (past_parameters ∙ h.of_parameters)
        (counted_left commands_of commands s w.commands c counted_commands e _ first_command))

  module _ (r : Option (O.Accessible × Cursor)) (hr : NextAccessibleIs s w.cursor r) where
    pub step_end : r ≡ None → slice_get (accessibles (table_of s)) w.accessibles ≡ None
    step_end z =
        drop_past w.accessibles (accessibles (table_of s)) w.accessibles
        (counted_end accessibles_of accessibles s w.accessibles c counted (rw z at hr)) (omega arith)

    module _ (a : O.Accessible) (e : Cursor) (z : r ≡ Some (a, e)) where
      after : After s c e
      after = one_after s c a e (rw z at hr)

      pub room_all : w.accessibles + 1 ≤ length s
      room_all = omega (arith, after.later, after.way.fits.within, h.few.0)

      pub room_parameters : w.parameters + 1 ≤ length s
      room_parameters = omega (arith, after.later, after.way.fits.within, h.few.1.0)

      pub room_commands : w.commands + 1 ≤ length s
      room_commands = omega (arith, after.later, after.way.fits.within, h.few.1.1)

      pub step_parameter : (q : ParameterAt) → a ≡ O.TheVariants.Parameter q → Stepped s w a (past_parameter e)
      step_parameter q y =
          let x : OneFirst s c a e = rw z at hr in
          rw y (parameter_stepped q e (rw y at x))

      pub step_command : (q : CommandAt) → a ≡ O.TheVariants.Command q → Stepped s w a (past_command e)
      step_command q y =
          let x : OneFirst s c a e = rw z at hr in
          rw y (command_stepped q e (rw y at x))

-- ## Steps, one after another

-- the walk has not passed number k
pub record Before (s : List ℕ) (k : ℕ) (w : Walk) : Type 0 where
  pub passed : Passed s w
  pub within : w.accessibles ≤ k

pub before_start : (s : List ℕ) (k : ℕ) (w : Walk) → Begins s w → Before s k w
before_start s k w b = record { passed = b.passed; within = omega (arith, b.none_yet) }

pub before_passed : (s : List ℕ) (k : ℕ) (w : Walk) → Before s k w → Passed s w
before_passed s k w b = b.passed

module _ (s : List ℕ) (w : Walk) (r : Option (O.Accessible × Walk)) (h : StepIs s w r) where
  module _ (a : O.Accessible) (v : Walk) (z : r ≡ Some (a, v)) where
    pub step_less : length s - v.cursor.at < length s - w.cursor.at
    step_less = let x = rw z at h in omega (arith, x.later, x.there.passed.way.fits.within)

    pub step_name : (p : Part) → p ≡ name_of a → Inside s p
    step_name p hp = rw hp (rw z at h).there.name

    pub step_home : Inside s v.cursor.name
    step_home = (rw z at h).there.passed.way.fits.name

  module _ (k : ℕ) (b : Before s k w) where
    pub number_none : r ≡ None → slice_get (accessibles (table_of s)) k ≡ None
    number_none z = none_later (accessibles (table_of s)) w.accessibles k (rw z at h) b.within

    module _ (a : O.Accessible) (v : Walk) (z : r ≡ Some (a, v)) where
      pub number_there : w.accessibles ≡ k → There s k a v
      number_there e = rw e at (rw z at h).there

      pub number_more : (w.accessibles ≡ k → ⊥) → Before s k v
      number_more n = let x = rw z at h in record { passed = x.there.passed; within = omega (arith, x.there.after, b.within) }
