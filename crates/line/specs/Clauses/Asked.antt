-- What the code that carries out a request is given of its line. Assumes nothing.
use Rattle.std.specs.Prelude.{ℕ, ◌≤◌, Bool, true, List, length}
use Rattle.ascii.specs.Bytes.{is_some}
use Rattle.table.specs.Table.{Table}
use Rattle.message.specs.Clauses.Parsed.{Within, Inside}
use Rattle.message.specs.declared.line.Part.{Part}
use Rattle.message.specs.declared.line.Request.{Request}
use Rattle.message.specs.declared.line.Verb.{Verb}
use Rattle.message.specs.declared.say.Class.{Class}

-- parts within a line of at most 1,024 bytes
pub record Carriable (line : List ℕ) (specifier payload : Part) (asked : Request) : Type 0 where
  pub short : length line ≤ 1024
  pub specifier_in : Within line specifier
  pub payload_in : Within line payload
  pub inside : Inside line asked

-- the error where what a verb takes is not there
abbrev pub missing_of : Verb → Class
missing_of Verb.Read = Class.NoSuchParameter
missing_of Verb.Change = Class.NoSuchParameter
missing_of Verb.Execute = Class.NoSuchCommand
missing_of Verb.Check = Class.NoSuchParameter

-- whether the table's edition has a verb
abbrev pub is_built : Table → Verb → Bool
is_built w Verb.Read = true
is_built w Verb.Change = true
is_built w Verb.Execute = true
is_built w Verb.Check = is_some w.edition
