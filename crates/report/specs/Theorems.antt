-- What the structure report tells: the table that is enforced, but for notes, initial values and their places, and for flags that enforce nothing:
-- those of optional members inside values and in arguments. Assumes nothing.
use Rattle.std.specs.Prelude.{ℕ, Bool, true, false, cond, List, [], map, ◌≡◌, Option, Some, None}
use Rattle.json_text.specs.Json.{Json}
use Rattle.datainfo.specs.Datainfo.{Datainfo, double, int, bool, enum, string, array, tuple, struct, scaled, blob, partial, Elements, no_elements, element}
use Rattle.datainfo.specs.Datainfo.{Fields, no_fields, field}
use Rattle.fit.specs.Fit.{fit, verdict, stored_form, change_verdict, change_form}
use Rattle.table.specs.Table.{Parameter, Command, Accessible, parameter, command, Module, Table}
use Rattle.table.specs.Search.{Placed, find_parameter, find_command}
use Rattle.report.specs.Report.{report}
use Rattle.report.specs.Judge.{tree_number}

-- a datainfo; which members are optional is forgotten inside another and in an argument, where "all are required" (M-113)
unfoldable mutual
  pub enforced_datainfo : Bool → Datainfo → Datainfo
  enforced_datainfo top (double lo hi) = double lo hi
  enforced_datainfo top (int lo hi) = int lo hi
  enforced_datainfo top bool = bool
  enforced_datainfo top (enum vs) = enum vs
  enforced_datainfo top (string lo hi) = string lo hi
  enforced_datainfo top (array lo hi d) = array lo hi (enforced_datainfo false d)
  enforced_datainfo top (tuple ds) = tuple (enforced_elements ds)
  enforced_datainfo top (struct fs) = struct (enforced_fields fs)
  enforced_datainfo top (scaled s lo hi) = scaled s lo hi
  enforced_datainfo top (blob lo hi) = blob lo hi
  enforced_datainfo top (partial ns fs) = partial (cond top ns []) (enforced_fields fs)

  pub enforced_elements : Elements → Elements
  enforced_elements no_elements = no_elements
  enforced_elements (element d ds) = element (enforced_datainfo false d) (enforced_elements ds)

  pub enforced_fields : Fields → Fields
  enforced_fields no_fields = no_fields
  enforced_fields (field k d fs) = field k (enforced_datainfo false d) (enforced_fields fs)

-- a parameter with its initial value and that value's place forgotten: name, description, readonly and datainfo stay
abbrev pub enforced_parameter : Parameter → Parameter
enforced_parameter p = record {
  name = p.name;
  description = p.description;
  readonly = p.readonly;
  datainfo = enforced_datainfo true p.datainfo;
  initial = [];
  place = 0;
}

-- a command, with its argument's datainfo, if it has one
unfoldable pub enforced_argument : Option Datainfo → Option Datainfo
enforced_argument None = None
enforced_argument (Some d) = Some (enforced_datainfo false d)

abbrev pub enforced_command : Command → Command
enforced_command c = record { name = c.name; description = c.description; argument = enforced_argument c.argument }

unfoldable pub enforced_accessible : Accessible → Accessible
enforced_accessible (parameter p) = parameter (enforced_parameter p)
enforced_accessible (command c) = command (enforced_command c)

-- a module with its note forgotten
unfoldable pub enforced_module : Module → Module
enforced_module m = record {
  name = m.name;
  description = m.description;
  note = None;
  accessibles = map enforced_accessible m.accessibles;
}

-- all of a table but its edition, notes, initial values and their places, and those flags [T-35]
unfoldable pub enforced : Table → Table
enforced t = record { equipment_id = t.equipment_id; description = t.description; edition = None; modules = map enforced_module t.modules }

-- Two accepted tables with the same structure report are the same table, but for editions, notes, initial values and their places, and flags that
-- enforce nothing: `ReportsTellVerdicts` says that they make no difference.
abbrev pub ReportsTell : Type 0
ReportsTell = (t u : Table) → tree_number t ≡ 0 → tree_number u ≡ 0 → report t ≡ report u → enforced t ≡ enforced u

-- ## Verdicts

module _ {A : Type 0} (f : Datainfo → A) where
  -- of a parameter that was found: its number, its module's number, whether it is readonly, and what f makes of its datainfo
  unfoldable pub parameter_says : Option (ℕ × Placed Parameter) → Option (ℕ × ℕ × Bool × A)
  parameter_says None = None
  parameter_says (Some p) = Some (p.0, p.1.home, p.1.it.readonly, f p.1.it.datainfo)

  -- of an argument, if a command takes one
  unfoldable pub argument_says : Option Datainfo → Option A
  argument_says None = None
  argument_says (Some d) = Some (f d)

  -- of a command that was found: its number, its module's number, and what f makes of its argument's datainfo
  unfoldable pub command_says : Option (ℕ × Placed Command) → Option (ℕ × ℕ × Option A)
  command_says None = None
  command_says (Some p) = Some (p.0, p.1.home, argument_says p.1.it.argument)

-- By every name the two tables have the same parameter and the same command, or none; and every value comes to the same verdict, every text, for a
-- parameter or an argument, to the same verdict and the same stored form, and every change of what is shown too.
pub record JudgeAlike (t u : Table) : Type 0 where
  pub parameter_fit : (m a : List ℕ) (v : Json)
      → parameter_says (λ d. fit d v) (find_parameter t m a) ≡ parameter_says (λ d. fit d v) (find_parameter u m a)
  pub command_fit : (m a : List ℕ) (v : Json)
      → command_says (λ d. fit d v) (find_command t m a) ≡ command_says (λ d. fit d v) (find_command u m a)
  pub parameter_verdict : (m a xs : List ℕ)
      → parameter_says (λ d. verdict d xs) (find_parameter t m a) ≡ parameter_says (λ d. verdict d xs) (find_parameter u m a)
  pub parameter_stored : (m a xs : List ℕ)
      → parameter_says (λ d. stored_form d xs) (find_parameter t m a) ≡ parameter_says (λ d. stored_form d xs) (find_parameter u m a)
  pub parameter_change : (m a xs : List ℕ) (shown : Option Json)
      → parameter_says (λ d. change_verdict shown d xs) (find_parameter t m a) ≡ parameter_says (λ d. change_verdict shown d xs) (find_parameter u m a)
  pub parameter_form : (m a xs : List ℕ) (shown : Option Json)
      → parameter_says (λ d. change_form shown d xs) (find_parameter t m a) ≡ parameter_says (λ d. change_form shown d xs) (find_parameter u m a)
  pub command_verdict : (m a xs : List ℕ)
      → command_says (λ d. verdict d xs) (find_command t m a) ≡ command_says (λ d. verdict d xs) (find_command u m a)
  pub command_form : (m a xs : List ℕ)
      → command_says (λ d. stored_form d xs) (find_command t m a) ≡ command_says (λ d. stored_form d xs) (find_command u m a)

-- Two accepted tables with the same structure report judge and store alike.
abbrev pub ReportsTellVerdicts : Type 0
ReportsTellVerdicts = (t u : Table) → tree_number t ≡ 0 → tree_number u ≡ 0 → report t ≡ report u → JudgeAlike t u
