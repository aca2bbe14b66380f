-- The update of one parameter as the code writes it, from positions in the table and the parameter's setting. Assumes nothing.
use Rattle.std.specs.Prelude.{ℕ, ◌-◌, ◌≤◌, ◌<◌, true, List, ◌≡◌, length, get_or}
use Rattle.message.specs.Error.{fault_of}
use Rattle.message.specs.Reply.{held_as, DataReport}
use Rattle.outbox.specs.Outbox.{update}
use Rattle.outbox.specs.Clauses.Written.{RoomFor}
use Rattle.table.specs.declared.layout.ParameterAt.{ParameterAt}
use Rattle.table.specs.Clauses.At.{bytes_of}
use Rattle.search.specs.declared.cursor.Cursor.{Cursor}
use Rattle.search.specs.Clauses.Left.{Fits, ParameterIn}
use Rattle.state.specs.declared.Settings.{Settings}
use Rattle.state.specs.View.{shown_bytes}
use Rattle.update.specs.declared.Scope.{Scope}
use Rattle.update.specs.Clauses.Scope.{wanted}

-- the report of the parameter of number k, of which q has the positions, and e is the cursor after it
unfoldable pub shown_report : List ℕ → Settings → List ℕ → ℕ → ParameterAt → Cursor → DataReport
shown_report table s values k q e =
    record {
      module_name = bytes_of table e.name;
      accessible = bytes_of table q.name;
      held = held_as (fault_of (get_or s.error k 0)) (shown_bytes table s values k q.initial);
      time = get_or s.time k 0;
    }

-- all of it lies in the table and the values area, and the outbox has room for the update, if the scope has the parameter's module
pub record Updatable (table : List ℕ) (s : Settings) (values out : List ℕ) (at c : ℕ) (scope : Scope) (k : ℕ) (q : ParameterAt) (e : Cursor) : Type 0 where
  pub low : k < 64
  pub short : get_or s.length k 0 ≤ 256
  pub area : 16384 ≤ length values
  pub held : ParameterIn table q
  pub fits : Fits table e
  pub begun : 0 < e.modules
  pub room : wanted scope (e.modules - 1) ≡ true → RoomFor out at (update c (shown_report table s values k q e))
