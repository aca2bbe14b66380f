-- What a text comes to that leaves nothing out, and what the code does that fills in what a change leaves out (M-113). Assumes nothing.
use Rattle.std.specs.Prelude.{ℕ, ◌≤◌, ◌≡◌, cond, List, length, take, Some}
use Rattle.json_text.specs.Json.{text}
use Rattle.fit.specs.Fit.{verdict, stored_form, completed_of}
use Rattle.table.specs.declared.layout.ParameterAt.{ParameterAt}
use Rattle.table.specs.Layout.{table_of}
use Rattle.table.specs.Table.{Parameter, Table}
use Rattle.table.specs.Search.{Placed, find_parameter}
use Rattle.search.specs.Clauses.Found.{ParameterFound}
use Rattle.message.specs.Error.{class, ReadOnly}
use Rattle.plain.specs.Node.{Node}
use Rattle.plain.specs.Answer.{Outcome, denied, let_in, shown_value, sets, shows}
use Rattle.state.specs.declared.State.{State}
use Rattle.state.specs.View.{view}
use Rattle.outcome.specs.Clauses.Ready.{Ready}

-- what f makes of the stored form of a text that is let in as it is
unfoldable pub judging_whole : (ℕ × Placed Parameter → List ℕ → Outcome) → List ℕ → ℕ × Placed Parameter → Outcome
judging_whole f v k =
    cond k.1.it.readonly (denied (class ReadOnly))
    (let_in (verdict k.1.it.datainfo v) (f k (stored_form k.1.it.datainfo v)))

abbrev pub changes_whole : Table → Node → ℕ → ℕ → List ℕ → ℕ × Placed Parameter → Outcome
changes_whole w n c t v k = judging_whole (sets w n c t) v k

abbrev pub checks_whole : Table → Node → ℕ → ℕ → List ℕ → ℕ × Placed Parameter → Outcome
checks_whole w n c t v k = judging_whole (shows w n c t) v k

-- a parameter, by its names, and a text for it, at a node that is ready; and room for what comes of it
pub record Fillable (table : List ℕ) (s : State) (values m a : List ℕ) (k h : ℕ) (q : ParameterAt) (xs whole : List ℕ) : Type 0 where
  pub out : List ℕ
  pub client : ℕ
  pub ready : Ready table s values out client
  pub found : ParameterFound table m a k h q
  pub short : length xs ≤ 1024
  pub room : 1282 ≤ length whole

-- the front of the buffer is that text, with what it leaves out filled in from what the parameter shows
pub record Fills (table : List ℕ) (s : State) (values m a xs before after : List ℕ) (r : ℕ) : Type 0 where
  pub size : length after ≡ length before
  pub within : r ≤ length after
  pub is : (x : ℕ × Placed Parameter) → find_parameter (table_of table) m a ≡ Some x
      → text (take r after) ≡ completed_of (shown_value ((view table s values).values x.0).held) x.1.it.datainfo (text xs)
