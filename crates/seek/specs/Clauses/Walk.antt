-- What the code that walks over all accessibles of a table answers. Assumes nothing.
use Rattle.std.specs.Prelude.{ℕ, ◌+◌, ◌-◌, ◌≤◌, ◌<◌, ◌≡◌, List, drop, Option, Some, None, slice_get}
use Rattle.table.specs.Table as Table
use Rattle.table.specs.Layout.{table_of}
use Rattle.table.specs.Rules.{accessible_name}
use Rattle.table.specs.Search.{parameters_of, commands_of, parameters, commands}
use Rattle.table.specs.Clauses.At.{bytes_of, Inside, parameter_of, command_of}
use Rattle.table.specs.declared.layout.ParameterAt.{ParameterAt}
use Rattle.table.specs.declared.layout.CommandAt.{CommandAt}
use Rattle.table.specs.declared.layout.Accessible as O
use Rattle.search.specs.Clauses.Left.{placed, left_from, accessibles_of, name_of, OnWay, ParameterIn, CommandIn}
use Rattle.index.specs.Accessibles.{accessibles}
use Rattle.seek.specs.declared.walk.Walk.{Walk}
use Rattle.table.specs.declared.layout.Accessible.{Accessible}

-- The walk w has passed as many accessibles, parameters and commands as it says; the others are left at its cursor.
pub record Passed (s : List ℕ) (w : Walk) : Type 0 where
  pub way : OnWay s w.cursor
  pub few : (w.accessibles ≤ w.cursor.at) × ((w.parameters ≤ w.cursor.at) × (w.commands ≤ w.cursor.at))
  pub all : left_from accessibles_of s w.cursor ≡ Some (drop w.accessibles (accessibles (table_of s)))
  pub of_parameters : left_from parameters_of s w.cursor ≡ Some (drop w.parameters (parameters (table_of s)))
  pub of_commands : left_from commands_of s w.cursor ≡ Some (drop w.commands (commands (table_of s)))

-- ## An accessible, with the walk v after it

-- `it` is the parameter of which q has the positions, and its number among parameters is the last that v has passed
pub record ParameterThere (s : List ℕ) (q : ParameterAt) (v : Walk) (it : Table.Accessible) : Type 0 where
  pub held : ParameterIn s q
  pub is : it ≡ Table.parameter (parameter_of s q held.datainfo)
  pub some_passed : 0 < v.parameters
  pub number : slice_get (parameters (table_of s)) (v.parameters - 1) ≡ Some (placed s v.cursor (parameter_of s q held.datainfo))

-- the same of a command
pub record CommandThere (s : List ℕ) (q : CommandAt) (v : Walk) (it : Table.Accessible) : Type 0 where
  pub held : CommandIn s q
  pub is : it ≡ Table.command (command_of s q held.argument)
  pub some_passed : 0 < v.commands
  pub number : slice_get (commands (table_of s)) (v.commands - 1) ≡ Some (placed s v.cursor (command_of s q held.argument))

abbrev pub OneThere : List ℕ → O.Accessible → Walk → Table.Accessible → Type 0
OneThere s (O.TheVariants.Parameter q) v it = ParameterThere s q v it
OneThere s (O.TheVariants.Command q) v it = CommandThere s q v it

abbrev pub next_of : O.Accessible → ℕ
next_of (O.TheVariants.Parameter q) = q.next
next_of (O.TheVariants.Command q) = q.next

-- the accessible of the number k is the one of which a has the positions, in the module of v's cursor
pub record There (s : List ℕ) (k : ℕ) (a : O.Accessible) (v : Walk) : Type 0 where
  pub it : Table.Accessible
  pub is : slice_get (accessibles (table_of s)) k ≡ Some (placed s v.cursor it)
  pub name : Inside s (name_of a)
  pub named : accessible_name it ≡ bytes_of s (name_of a)
  pub one : OneThere s a v it
  pub after : v.accessibles ≡ k + 1
  pub passed : Passed s v
  pub next : v.cursor.at ≡ next_of a
  pub begun : 0 < v.cursor.modules

-- ## Answers

pub record Begins (s : List ℕ) (w : Walk) : Type 0 where
  pub passed : Passed s w
  pub none_yet : w.accessibles ≡ 0

-- a is the next accessible after the walk w, and v the walk after it
pub record Stepped (s : List ℕ) (w : Walk) (a : O.Accessible) (v : Walk) : Type 0 where
  pub there : There s w.accessibles a v
  pub later : w.cursor.at < v.cursor.at

abbrev pub StepIs : List ℕ → Walk → Option (O.Accessible × Walk) → Type 0
StepIs s w (Some (a, v)) = Stepped s w a v
StepIs s w None = slice_get (accessibles (table_of s)) w.accessibles ≡ None

-- the accessible of the number k
abbrev pub NumberedIs : List ℕ → ℕ → Option (O.Accessible × Walk) → Type 0
NumberedIs s k (Some (a, v)) = There s k a v
NumberedIs s k None = slice_get (accessibles (table_of s)) k ≡ None
