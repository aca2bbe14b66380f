-- What a replay's calls set each parameter to, for the night in numbers (M-111). Assumes nothing.
use Rattle.std.specs.Prelude.{ℕ, cond, List, [], ◌∷◌, ◌++◌, eqb, Option, Some, None, slice_get}
use Rattle.fit.specs.Fit.{stored_form}
use Rattle.table.specs.Table.{Parameter, Table}
use Rattle.table.specs.Search.{Placed, parameters}
use Rattle.outbox.specs.Outbox.{Record, final, update, order_change, order_command}
use Rattle.plain.specs.Calls.{Event, Open, Close, Piece, Reading, Unreadable, Call, Answer}

-- "changes": of an accepted one the driver is ordered to set what is stored, and nothing else is ordered so; "not M-100's busy", which is no order
unfoldable pub orders_of : ℕ → List Record → List (List ℕ)
orders_of k [] = []
orders_of k (final c r ∷ rs) = orders_of k rs
orders_of k (update c r ∷ rs) = orders_of k rs
orders_of k (order_change c p v ∷ rs) = cond (eqb k p) (v ∷ []) [] ++ orders_of k rs
orders_of k (order_command c p v ∷ rs) = orders_of k rs

-- "readings": the stored form
unfoldable pub form_for : Option (Placed Parameter) → List ℕ → List (List ℕ)
form_for None bs = []
form_for (Some p) bs = stored_form p.it.datainfo bs ∷ []

unfoldable pub readings_of : Table → ℕ → Event → List (List ℕ)
readings_of w k (Open c t) = []
readings_of w k (Close c t) = []
readings_of w k (Piece c bs t) = []
readings_of w k (Reading p bs t) = cond (eqb k p) (form_for (slice_get (parameters w) p) bs) []
readings_of w k (Unreadable p e t) = []

-- "accepted settings .. (readings and changes, not M-100's busy)": what a call that was answered so set parameter k to [R-15]
unfoldable pub set_by : Table → ℕ → Event → Answer → List (List ℕ)
set_by w k e a = cond (eqb a.number 0) (readings_of w k e) [] ++ orders_of k a.records

-- of calls one after another, with their answers [R-15]
unfoldable pub set_by_all : Table → ℕ → List Call → List Answer → List (List ℕ)
set_by_all w k [] l = []
set_by_all w k (e ∷ h) [] = []
set_by_all w k (e ∷ h) (a ∷ l) = set_by w k e.event a ++ set_by_all w k h l
