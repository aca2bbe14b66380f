-- What the code that keeps the figures promises (M-111). Assumes nothing.
use Rattle.std.specs.Prelude.{ℕ, ◌≤◌, ◌<◌, true, cond, ◌&&◌, List, ◌++◌, ◌≡◌, eqb, length, get_or, drop, Option, Some, None, slice_get}
use Rattle.ascii.specs.Bytes.{head}
use Rattle.fit.specs.Fit.{is_stored}
use Rattle.table.specs.Table.{Parameter}
use Rattle.table.specs.Layout.{table_of}
use Rattle.table.specs.Search.{Placed, parameters}
use Rattle.table.specs.Clauses.At.{Inside}
use Rattle.table.specs.declared.layout.ParameterAt.{ParameterAt}
use Rattle.report.specs.Judge.{table_number}
use Rattle.figures.specs.declared.Figures.{Figures}
use Rattle.figures.specs.Clauses.Tally.{tally_at, mark_of, Tallies, SetTo, Observes}
use Rattle.plain.specs.Calls.{Call}
use Rattle.state.specs.declared.State.{State}
use Rattle.state.specs.declared.Settings.{Settings}
use Rattle.state.specs.View.{shown, shown_bytes}
use Rattle.promise.specs.Promise.{step_from}
use Rattle.trace.specs.declared.Kind.{Kind}
use Rattle.trace.specs.declared.Kind.TheVariants.{Opening, Closing, Piece, Reading, Unreadable}
use Rattle.replay.specs.Settings.{set_by}

-- the figures f' are those of f and of what the call c set, which was made on this state and values area
pub record Figured (table : List ℕ) (s : State) (values : List ℕ) (c : Call) (f f' : Figures) : Type 0 where
  pub is : (k : ℕ) (p : Placed Parameter) → slice_get (parameters (table_of table)) k ≡ Some p → (vs : List (List ℕ))
      → Tallies p.it.datainfo vs (tally_at f k)
      → Tallies p.it.datainfo (vs ++ set_by (table_of table) k c.event (step_from table s values c).1) (tally_at f' k)

-- the parameter of a driver's order to change at the front of an outbox's bytes: mark, client byte, length of two bytes, parameter byte
unfoldable pub order_in : List ℕ → Option ℕ
order_in xs = cond (eqb (head xs) 68 && eqb (head (drop 1 xs)) 82) (Some (head (drop 5 xs))) None

-- the parameter that an accepted call of this kind set, which wrote n bytes: a reading's own, or a change's, whose order is the first record
unfoldable pub chosen_by : Kind → ℕ → ℕ → List ℕ → Option ℕ
chosen_by Opening p n xs = None
chosen_by Closing p n xs = None
chosen_by Piece p n xs = cond (eqb n 0) None (order_in xs)
chosen_by Reading p n xs = Some p
chosen_by Unreadable p n xs = None

-- parameter k, which is p, shows the text v, which fits and is in stored form
pub record Shows (table : List ℕ) (s : Settings) (values : List ℕ) (k : ℕ) (p : Placed Parameter) (v : List ℕ) : Type 0 where
  pub accepted : table_number table ≡ 0
  pub area : 16384 ≤ length values
  pub there : slice_get (parameters (table_of table)) k ≡ Some p
  pub low : k < 64
  pub short : get_or s.length k 0 ≤ 256
  pub is : shown table s values k p.it ≡ v
  pub stored : is_stored p.it.datainfo v ≡ true

pub record Shown (table : List ℕ) (s : Settings) (values : List ℕ) (k : ℕ) : Type 0 where
  pub p : Placed Parameter
  pub v : List ℕ
  pub shows : Shows table s values k p v

-- what parameter k shows can be marked, of which q has the positions
pub record Markable (table : List ℕ) (s : Settings) (values : List ℕ) (k : ℕ) (q : ParameterAt) : Type 0 where
  pub low : k < 64
  pub short : get_or s.length k 0 ≤ 256
  pub area : 16384 ≤ length values
  pub initial : Inside table q.initial
  pub set : SetTo table q.info (shown_bytes table s values k q.initial)

-- parameter k was set to what it shows
pub record Notes (table : List ℕ) (s : Settings) (values : List ℕ) (k : ℕ) (f r : Figures) : Type 0 where
  pub is : (p : Placed Parameter) (v : List ℕ) → Shows table s values k p v → Observes f k (mark_of p.it.datainfo v) r
