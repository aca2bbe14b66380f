-- What the code that takes in what a driver tells is given, and what it leaves. Assumes nothing.
use Rattle.std.specs.Prelude.{ℕ, ◌≤◌, ◌<◌, true, false, List, ◌≡◌, length}
use Rattle.ascii.specs.Numbers.{latest}
use Rattle.fit.specs.Fit.{is_fit, verdict}
use Rattle.table.specs.Layout.{table_of}
use Rattle.table.specs.declared.layout.ParameterAt.{ParameterAt}
use Rattle.report.specs.Judge.{table_number}
use Rattle.search.specs.declared.cursor.Cursor.{Cursor}
use Rattle.search.specs.Clauses.Found.{ParameterNumbered}
use Rattle.plain.specs.Calls.{Event}
use Rattle.state.specs.declared.State.{State}
use Rattle.state.specs.Fit.{is_unfit}
use Rattle.promise.specs.declared.Done.{Done}
use Rattle.promise.specs.Clauses.Leaves.{Leaves}

-- the room that one reading needs of an outbox: an update takes 420 bytes at most, and there are eight clients
abbrev pub reading_room : ℕ
reading_room = 3360

-- What a driver tells of the parameter of number k at the time t can be taken in: the table is accepted, the time is within the limit, and the part of
-- the outbox that is lent has that room; q has the positions of the parameter, and e is the cursor after it.
pub record Tellable (table outbox : List ℕ) (k t : ℕ) (q : ParameterAt) (e : Cursor) : Type 0 where
  pub accepted : table_number table ≡ 0
  pub in_time : t ≤ latest
  pub room : reading_room ≤ length outbox
  pub low : k < 64
  pub found : ParameterNumbered table k q e

-- the values area is large enough, and the state is fit
pub record Standing (table : List ℕ) (s : State) (values : List ℕ) : Type 0 where
  pub area : 16384 ≤ length values
  pub fit : is_unfit (table_of table) s values ≡ false

-- both, and the bytes bs fit the parameter
pub record Fitting (table : List ℕ) (s : State) (values outbox : List ℕ) (k t : ℕ) (bs : List ℕ) (q : ParameterAt) (e : Cursor) : Type 0 where
  pub tellable : Tellable table outbox k t q e
  pub standing : Standing table s values
  pub fits : is_fit (verdict tellable.found.held.datainfo bs) ≡ true

-- It leaves what the accepted event leaves, with the updates at the front of the part of the outbox that it is lent, and stays within that room.
pub record Taken (table : List ℕ) (s : State) (values outbox : List ℕ) (e : Event) (r : Done) (values' outbox' : List ℕ) : Type 0 where
  pub leaves : Leaves table s values e outbox r values' outbox'
  pub short : r.written ≤ reading_room
  -- it seeks nothing, and alters no client but its counts
  pub steps : r.steps ≡ 0
  pub clients : r.state.clients ≡ s.clients
