-- What the code that writes the summary is given: a table that is accepted, and a state that is fit for it. Assumes nothing.
use Rattle.std.specs.Prelude.{ℕ, ◌≤◌, false, List, ◌≡◌, length, get_or}
use Rattle.table.specs.Layout.{table_of}
use Rattle.table.specs.Search.{parameters}
use Rattle.report.specs.Judge.{table_number}
use Rattle.state.specs.declared.State.{State}
use Rattle.state.specs.View.{view}
use Rattle.state.specs.Fit.{is_unfit}
use Rattle.trace.specs.Clauses.Takes.{progress_of}
use Rattle.replay.specs.declared.Replay.{Replay}
use Rattle.summary.specs.Summary.{value_lines, summary}

pub record Told (table : List ℕ) (s : State) (values out : List ℕ) : Type 0 where
  pub accepted : table_number table ≡ 0
  pub area : 16384 ≤ length values
  pub fit : is_unfit (table_of table) s values ≡ false
  pub room : 32768 ≤ length out

-- a count by its number
abbrev pub count_at : List ℕ → ℕ → ℕ
count_at refused k = get_or refused k 0

-- the lines of what a state shows
abbrev pub lines_of : List ℕ → State → List ℕ → List ℕ
lines_of table s values = value_lines (view table s values).values 0 (parameters (table_of table))

-- all that is told of a replay but its figures
abbrev pub told_of : List ℕ → Replay → List ℕ → List ℕ
told_of table r values = summary (table_of table) (view table r.state values).values (count_at r.refused) (progress_of r.reader)
