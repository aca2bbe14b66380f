-- A parameter's line as the code writes it, from positions in the table and the parameter's setting. Assumes nothing.
use Rattle.std.specs.Prelude.{ℕ, ◌+◌, ◌≤◌, ◌<◌, List, ◌++◌, length, get_or}
use Rattle.ascii.specs.Text.{bytes}
use Rattle.ascii.specs.Numbers.{decimal}
use Rattle.message.specs.Error.{fault_of}
use Rattle.message.specs.Reply.{held_as}
use Rattle.message.specs.Clauses.Said.{held_by}
use Rattle.message.specs.declared.say.Sensor.{Sensor}
use Rattle.table.specs.declared.layout.ParameterAt.{ParameterAt}
use Rattle.table.specs.Clauses.At.{bytes_of}
use Rattle.search.specs.declared.cursor.Cursor.{Cursor}
use Rattle.search.specs.Clauses.Left.{Fits, ParameterIn}
use Rattle.state.specs.declared.Settings.{Settings}
use Rattle.state.specs.View.{shown_bytes}
use Rattle.summary.specs.Summary.{held_text, value_line}

-- a parameter's line as the code is given it
abbrev pub held_line : List ℕ → List ℕ → Sensor → List ℕ → List ℕ
held_line m p sensor v = value_line m p (held_text (held_by sensor v))

-- the line of the parameter of number k, of which q has the positions, and e is the cursor after it
unfoldable pub line_at : List ℕ → Settings → List ℕ → ℕ → ParameterAt → Cursor → List ℕ
line_at table s values k q e =
    value_line (bytes_of table e.name) (bytes_of table q.name) (held_text (held_as (fault_of (get_or s.error k 0)) (shown_bytes table s values k q.initial)))

-- all of it lies in the table and the values area, and there is room
pub record Writable (table : List ℕ) (s : Settings) (values out : List ℕ) (at k : ℕ) (q : ParameterAt) (e : Cursor) : Type 0 where
  pub low : k < 64
  pub short : get_or s.length k 0 ≤ 256
  pub area : 16384 ≤ length values
  pub held : ParameterIn table q
  pub fits : Fits table e
  pub room : at + length (line_at table s values k q e) ≤ length out

-- a number and a line feed
unfoldable pub offset_text : ℕ → List ℕ
offset_text n = decimal n ++ bytes "\n"
