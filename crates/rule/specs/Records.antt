-- What each client is sent among records. Assumes nothing.
use Rattle.std.specs.Prelude.{ℕ, suc, ◌+◌, Bool, true, false, cond, not, ◌&&◌, ◌||◌, List, [], ◌∷◌, ◌++◌, eqb, ltb, length, take, Option, Some, None}
use Rattle.ascii.specs.Bytes.{is_some}
use Rattle.table.specs.Table.{Parameter, Module, Table}
use Rattle.table.specs.Search.{Placed, find_module}
use Rattle.message.specs.Reply.{DataReport, Reply, identification, describing, pong, active, inactive, reply, changed, done, counted, error, checked}
use Rattle.outbox.specs.Outbox.{Record, final, update, order_change, order_command}
use Rattle.plain.specs.Node.{Client, Value, showing, is_active, report_of}
use Rattle.plain.specs.Answer.{busy}
use Rattle.plain.specs.Calls.{Event, Open, Close, Piece, Reading, Unreadable, Answer}

-- the updates to client d, in order
unfoldable pub updates_for : ℕ → List Record → List DataReport
updates_for d [] = []
updates_for d (final c r ∷ rs) = updates_for d rs
updates_for d (update c r ∷ rs) = cond (eqb d c) (r ∷ []) [] ++ updates_for d rs
updates_for d (order_change c p v ∷ rs) = updates_for d rs
updates_for d (order_command c p v ∷ rs) = updates_for d rs

-- the final replies to client d, in order [H-12]
unfoldable pub replies_for : ℕ → List Record → List Reply
replies_for d [] = []
replies_for d (final c r ∷ rs) = cond (eqb d c) (r ∷ []) [] ++ replies_for d rs
replies_for d (update c r ∷ rs) = replies_for d rs
replies_for d (order_change c p v ∷ rs) = replies_for d rs
replies_for d (order_command c p v ∷ rs) = replies_for d rs

-- the line feeds (10) among bytes
unfoldable pub feed_count : List ℕ → ℕ
feed_count [] = 0
feed_count (b ∷ bs) = cond (eqb b 10) 1 0 + feed_count bs

-- the line feeds of client d that an event used
unfoldable pub feeds_used : ℕ → Event → Answer → ℕ
feeds_used d (Open c t) r = 0
feeds_used d (Close c t) r = 0
feeds_used d (Piece c bs t) r = cond (eqb d c) (feed_count (take r.used bs)) 0
feeds_used d (Reading p bs t) r = 0
feeds_used d (Unreadable p k t) r = 0

-- the modules that `active M` or `inactive M` names, by number; with no name, all
unfoldable pub number_is : Option (ℕ × Module) → ℕ → Bool
number_is None i = false
number_is (Some x) i = eqb i x.0

unfoldable pub in_scope_of : Table → Option (List ℕ) → ℕ → Bool
in_scope_of w None i = true
in_scope_of w (Some m) i = number_is (find_module w m) i

-- no module is named, or one that is there
unfoldable pub is_there : Table → Option (List ℕ) → Bool
is_there w None = true
is_there w (Some m) = is_some (find_module w m)

-- the parameters of the modules that are wanted, with their values, in table order; the first has the number k
unfoldable pub reports_of : (ℕ → Bool) → (ℕ → Value) → ℕ → List (Placed Parameter) → List DataReport
reports_of wanted values k [] = []
reports_of wanted values k (p ∷ ps) = cond (wanted p.home) (report_of p (values k) ∷ []) [] ++ reports_of wanted values (suc k) ps

-- what a client is sent of a status that is set to busy at a time (M-100): one update, if it has the status's module active
unfoldable pub busy_reports : Client → Option (ℕ × Placed Parameter) → ℕ → List DataReport
busy_reports x None t = []
busy_reports x (Some s) t = cond (is_active x s.1.home) (report_of s.1 (showing busy t) ∷ []) []

-- whether module i is active after these replies, where it was so before or not: `active` adds, `inactive` takes away
unfoldable pub active_by : Table → ℕ → Bool → List Reply → Bool
active_by w i b [] = b
active_by w i b (identification e ∷ rs) = active_by w i b rs
active_by w i b (describing x ∷ rs) = active_by w i b rs
active_by w i b (pong x t ∷ rs) = active_by w i b rs
active_by w i b (active m ∷ rs) = active_by w i (b || (ltb i (length w.modules) && in_scope_of w m i)) rs
active_by w i b (inactive m ∷ rs) = active_by w i (b && not (in_scope_of w m i)) rs
active_by w i b (reply x ∷ rs) = active_by w i b rs
active_by w i b (changed x ∷ rs) = active_by w i b rs
active_by w i b (done x ∷ rs) = active_by w i b rs
active_by w i b (checked x ∷ rs) = active_by w i b rs
active_by w i b (counted x n t ∷ rs) = active_by w i b rs
active_by w i b (error a s x ∷ rs) = active_by w i b rs

-- whether client d has module i active after an accepted event, by d's own opens, closes and replies alone
unfoldable pub active_after : Table → ℕ → ℕ → Bool → Event → List Record → Bool
active_after w d i b (Open c t) rs = cond (eqb d c) false b
active_after w d i b (Close c t) rs = cond (eqb d c) false b
active_after w d i b (Piece c bs t) rs = active_by w i b (replies_for d rs)
active_after w d i b (Reading p bs t) rs = b
active_after w d i b (Unreadable p k t) rs = b
