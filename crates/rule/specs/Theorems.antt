-- The user's rule: whoever activates a module is sent its updates and nobody else is; whoever sends a line gets one reply to it and
-- nobody else does; a change that is refused alters nothing for anyone. Each statement is of every single call, on every table and node; a list is
-- its single readings (`lists::lists_are_readings`). Assumes nothing.
use Rattle.std.specs.Prelude.{ℕ, suc, ◌<◌, ◌≤◌, Bool, true, false, cond, ◌⊎◌, ◌≡◌, length, Option, Some, None, slice_get}
use mathlib.Core.List.{List, [], ◌∷◌, ◌++◌, Memᴰ}
use Rattle.fit.specs.Fit.{Verdict, fits, rangeError, wrongType, badJSON, verdict, is_fit, stored_form}
use Rattle.ascii.specs.Text.{bytes}
use Rattle.ascii.specs.Bytes.{is_some}
use Rattle.message.specs.Line.{Parts, whole, content, parts_of}
use Rattle.message.specs.Request.{Request, activate, deactivate, read, change, execute, check, request}
use Rattle.message.specs.Error.{Class, ReadOnly, BadJSON, WrongType, RangeError, Fault, fault_of, Denial, class, fault}
use Rattle.message.specs.Reply.{Held, valued, failed, DataReport, Reply, reply, changed, active, inactive, done, checked, error}
use Rattle.table.specs.Table.{Parameter, Command, parameter, Module, Table}
use Rattle.table.specs.Layout.{table_of}
use Rattle.table.specs.Search.{Placed, parameters, commands, find_parameter, find_command}
use Rattle.outbox.specs.Outbox.{Record, final, update, order_change, order_command}
use Rattle.plain.specs.Node.{Value, Node, put, with_client, set_values, is_open, is_active, line_of, receive, emptied, line_taken, counting, report_of}
use Rattle.plain.specs.Node.{client_numbers, updates_to, updates_of, holding, showing}
use Rattle.plain.specs.Answer.{argument_verdict, argument_form, judged_at, stored_at, busy, status_of, busy_settings, busy_updates}
use Rattle.plain.specs.Calls.{Event, Piece, Reading, Unreadable, Lent, Call, Answer, before_feed, has_feed, used_of, settings_if}
use Rattle.plain.specs.History.{step}
use Rattle.rule.specs.Records.{updates_for, replies_for, feeds_used, in_scope_of, is_there, reports_of, busy_reports, active_after}

-- ## Whoever activates a module is sent its updates and nobody else is

-- An update, `update` or `error_update` by what the parameter holds, tells of a parameter as the call leaves it, under the name of its own module,
-- and goes to a client that is open and has that module active as the call leaves it.
pub record ToActive (w : Table) (n : Node) (d : ℕ) (r : DataReport) : Type 0 where
  pub k : ℕ
  pub p : Placed Parameter
  pub there : slice_get (parameters w) k ≡ Some p
  pub tells : r ≡ report_of p (n.values k)
  pub is_active : is_active (n.clients d) p.home ≡ true
  pub is_open : is_open (n.clients d) ≡ true

abbrev pub UpdatesGoToActiveClients : Type 0
UpdatesGoToActiveClients = (table : List ℕ) (n : Node) (e : Call) (d : ℕ) (r : DataReport)
    → Memᴰ (update d r) (step table n e).1.records → ToActive (table_of table) (step table n e).0 d r

-- Parameter k, which is p, was set to v, a value or an error, and nothing else was: each client that has its module active is sent one update that tells
-- of it, and no other client any.
pub record Set (w : Table) (n m : Node) (k : ℕ) (p : Placed Parameter) (v : Value) (rs : List Record) : Type 0 where
  pub there : slice_get (parameters w) k ≡ Some p
  pub values : m.values ≡ put n.values k v
  pub updates : (d : ℕ) → d < 8 → updates_for d rs ≡ cond (is_active (m.clients d) p.home) (report_of p v ∷ []) []
  pub nobody : (d : ℕ) → 8 ≤ d → updates_for d rs ≡ []

-- A reading that is accepted sets its parameter to its stored form at its time, and sends the updates only.
pub record ReadingSets (w : Table) (n m : Node) (k : ℕ) (bs : List ℕ) (t : ℕ) (rs : List Record) : Type 0 where
  pub p : Placed Parameter
  pub fitting : verdict p.it.datainfo bs ≡ fits
  pub set : Set w n m k p (showing (stored_form p.it.datainfo bs) t) rs
  pub records : rs ≡ updates_to n.clients p.home (report_of p (showing (stored_form p.it.datainfo bs) t)) client_numbers

abbrev pub ReadingsAreSentToAll : Type 0
ReadingsAreSentToAll = (table : List ℕ) (n : Node) (k : ℕ) (bs : List ℕ) (t : ℕ) (lent : Lent)
    → let r = step table n (record { event = Reading k bs t; lent = lent }) in
    r.1.number ≡ 0 → ReadingSets (table_of table) n r.0 k bs t r.1.records

-- A report that a parameter can't be read, if it is accepted, sets it to the error of that class at its time, and sends the updates only; so those
-- who have its module active are sent `error_update`, and nobody else.
pub record UnreadableSets (w : Table) (n m : Node) (k class t : ℕ) (rs : List Record) : Type 0 where
  pub p : Placed Parameter
  pub f : Fault
  pub known : fault_of class ≡ Some f
  pub set : Set w n m k p (holding (failed f) t) rs
  pub records : rs ≡ updates_to n.clients p.home (report_of p (holding (failed f) t)) client_numbers

abbrev pub UnreadablesAreSentToAll : Type 0
UnreadablesAreSentToAll = (table : List ℕ) (n : Node) (k class t : ℕ) (lent : Lent)
    → let r = step table n (record { event = Unreadable k class t; lent = lent }) in
    r.1.number ≡ 0 → UnreadableSets (table_of table) n r.0 k class t r.1.records

-- the parts of client c's line that these bytes end, and what it asks for
abbrev pub parts_at : Node → ℕ → List ℕ → Parts
parts_at n c bs = parts_of (content (line_of (receive (n.clients c) (before_feed bs))))

unfoldable pub request_of : Node → ℕ → List ℕ → Request
request_of n c bs = request (parts_at n c bs)

-- Client c changed parameter k, which is p, to the text v at the time t, and nothing else but a status that is to be set first (M-100): first the
-- driver's order, then the updates of that status, then those of p, each lowest client first, then the reply. Each client that has their module
-- active is sent one update that tells of the status and then one that tells of p, and no other client any.
pub record Changed (w : Table) (n m : Node) (c k : ℕ) (p : Placed Parameter) (v : List ℕ) (t : ℕ) (rs : List Record) : Type 0 where
  pub there : slice_get (parameters w) k ≡ Some p
  pub values : m.values ≡ put (set_values n.values (busy_settings (status_of w p) t)) k (showing v t)
  pub updates : (d : ℕ) → d < 8
      → updates_for d rs ≡ busy_reports (m.clients d) (status_of w p) t ++ cond (is_active (m.clients d) p.home) (report_of p (showing v t) ∷ []) []
  pub nobody : (d : ℕ) → 8 ≤ d → updates_for d rs ≡ []
  pub records : rs
      ≡ (order_change c k v ∷ [])
      ++ busy_updates m.clients (status_of w p) t
      ++ updates_to m.clients p.home (report_of p (showing v t)) client_numbers
      ++ (final c (changed (report_of p (showing v t))) ∷ [])

-- A change that is replied to by `changed` was asked for by that line, fits, and sets that parameter to its stored form at the time of
-- the line feed: what it leaves out is filled in from what the parameter shows before it (M-113).
pub record ChangeSets (w : Table) (n m : Node) (c : ℕ) (bs : List ℕ) (t : ℕ) (r : DataReport) (rs : List Record) : Type 0 where
  pub k : ℕ
  pub p : Placed Parameter
  pub offered : List ℕ
  pub asked : request_of n c bs ≡ change p.module_name p.it.name offered
  pub writable : p.it.readonly ≡ false
  pub fitting : judged_at n.values (k, p) offered ≡ fits
  pub tells : r ≡ report_of p (showing (stored_at n.values (k, p) offered) t)
  pub changed : Changed w n m c k p (stored_at n.values (k, p) offered) t rs

-- what holds of a piece of client c, by its bytes and its time
pub data OfPiece (c : ℕ) (P : List ℕ → ℕ → Type 0) : Event → Type 0 where
  of_piece : {bs : List ℕ} {t : ℕ} → P bs t → OfPiece c P (Piece c bs t)

abbrev pub ChangesAreSentToAll : Type 0
ChangesAreSentToAll = (table : List ℕ) (n : Node) (e : Call) (c : ℕ) (r : DataReport)
    → Memᴰ (final c (changed r)) (step table n e).1.records
    → OfPiece c (λ bs t. ChangeSets (table_of table) n (step table n e).0 c bs t r (step table n e).1.records) e.event

-- what holds of every accepted piece of client c that ends a line which asks for q: by its time, the node that it leaves and its records
abbrev pub WhenAsked : List ℕ → Node → ℕ → Request → (ℕ → Node → List Record → Type 0) → Type 0
WhenAsked table n c q P = (bs : List ℕ) (t : ℕ) (lent : Lent) → let r = step table n (record { event = Piece c bs t; lent = lent }) in
    r.1.number ≡ 0 → has_feed bs ≡ true → request_of n c bs ≡ q → P t r.0 r.1.records

-- And every good change is made: one of a parameter that is there and is not readonly, by a value that fits, with what it leaves out.
abbrev pub GoodChangesAreMade : Type 0
GoodChangesAreMade = (table : List ℕ) (n : Node) (c : ℕ) (m x offered : List ℕ) (k : ℕ) (p : Placed Parameter)
    → find_parameter (table_of table) m x ≡ Some (k, p) → p.it.readonly ≡ false → judged_at n.values (k, p) offered ≡ fits
    → WhenAsked table n c (change m x offered) λ t y rs. Changed (table_of table) n y c k p (stored_at n.values (k, p) offered) t rs

-- ## Whoever has the module active has been sent the busy status before the requester is sent `changed` (M-100)

-- Client c was sent `changed` with the report r last, and s is the status of its module: before it every client that has that module active was
-- sent the busy status, with the same time, which the node m then holds.
pub record BusyFirst (m : Node) (c : ℕ) (s : ℕ × Placed Parameter) (r : DataReport) (rs : List Record) : Type 0 where
  pub earlier : List Record
  pub records : rs ≡ earlier ++ (final c (changed r) ∷ [])
  pub sent : (d : ℕ) → d < 8 → is_active (m.clients d) s.1.home ≡ true → Memᴰ (update d (report_of s.1 (showing busy r.time))) earlier
  pub held : m.values s.0 ≡ showing busy r.time

-- s was left as it is, its value or its error, and its time, and nothing was sent for it: every update tells r.
pub record StatusLeft (n m : Node) (s : ℕ × Placed Parameter) (r : DataReport) (rs : List Record) : Type 0 where
  pub held : m.values s.0 ≡ n.values s.0
  pub alone : (d : ℕ) (x : DataReport) → Memᴰ (update d x) rs → x ≡ r

-- what holds of every call that sends `changed` for a parameter named `target`, where its module has a parameter named `status`: by the client, that
-- status and what is told of the target
abbrev pub WhenRamped : (List ℕ → Node → Call → ℕ → ℕ × Placed Parameter → DataReport → Type 0) → Type 0
WhenRamped P = (table : List ℕ) (n : Node) (e : Call) (c : ℕ) (s : ℕ × Placed Parameter) (r : DataReport)
    → Memᴰ (final c (changed r)) (step table n e).1.records
    → r.accessible ≡ bytes "target" → find_parameter (table_of table) r.module_name (bytes "status") ≡ Some s → P table n e c s r

abbrev pub BusyBeforeChanged : Type 0
BusyBeforeChanged = WhenRamped λ table n e c s r.
    is_fit (verdict s.1.it.datainfo busy) ≡ true → BusyFirst (step table n e).0 c s r (step table n e).1.records

-- "If the status's datainfo doesn't admit that value, status stays as it is."
abbrev pub OtherStatusStays : Type 0
OtherStatusStays = WhenRamped λ table n e c s r.
    is_fit (verdict s.1.it.datainfo busy) ≡ false → StatusLeft n (step table n e).0 s r (step table n e).1.records

-- ## Settings and activations

-- No other call alters a value: of a call that alters one, either it is an accepted reading or report of an unreadable parameter, or its line was
-- replied to by `changed`.
pub data BySetting : Event → Answer → Type 0 where
  by_reading : {k : ℕ} {bs : List ℕ} {t : ℕ} {x : Answer} → x.number ≡ 0 → BySetting (Reading k bs t) x
  by_unreadable : {k class t : ℕ} {x : Answer} → x.number ≡ 0 → BySetting (Unreadable k class t) x
  by_change : {e : Event} {x : Answer} (c : ℕ) (r : DataReport) → Memᴰ (final c (changed r)) x.records → BySetting e x

abbrev pub ValuesAlterBySettings : Type 0
ValuesAlterBySettings = (table : List ℕ) (n : Node) (e : Call)
    → ((step table n e).0.values ≡ n.values) ⊎ BySetting e.event (step table n e).1

-- What a call sets, one after another, is all that alters a value or its time.
abbrev pub SettingsAreAll : Type 0
SettingsAreAll = (table : List ℕ) (n : Node) (e : Call) → (step table n e).0.values ≡ set_values n.values (settings_if table false n e)

-- `activate` that is replied to by `active` sends its client an update for each parameter of the modules in scope, in table order, and
-- nobody else any.
pub record InitialUpdates (w : Table) (n : Node) (c : ℕ) (m : Option (List ℕ)) (rs : List Record) : Type 0 where
  pub own : updates_for c rs ≡ reports_of (in_scope_of w m) n.values 0 (parameters w)
  pub others : (d : ℕ) → (d ≡ c → ⊥) → updates_for d rs ≡ []

abbrev pub ActivationsSendAll : Type 0
ActivationsSendAll = (table : List ℕ) (n : Node) (e : Call) (c : ℕ) (m : Option (List ℕ))
    → Memᴰ (final c (active m)) (step table n e).1.records
    → InitialUpdates (table_of table) n c m (step table n e).1.records

-- And every good activation is made, of all modules or of one that is there: the updates are sent, then `active`, and the modules in scope are
-- active; and every good deactivation: `inactive` is sent, and they are active no more. No value and no time alters.
pub record Activated (w : Table) (n m : Node) (c : ℕ) (scope : Option (List ℕ)) (rs : List Record) : Type 0 where
  pub records : rs ≡ updates_of c (in_scope_of w scope) n.values 0 (parameters w) ++ (final c (active scope) ∷ [])
  pub active : (i : ℕ) → i < length w.modules → in_scope_of w scope i ≡ true → is_active (m.clients c) i ≡ true
  pub values : m.values ≡ n.values

pub record Deactivated (w : Table) (n m : Node) (c : ℕ) (scope : Option (List ℕ)) (rs : List Record) : Type 0 where
  pub records : rs ≡ final c (inactive scope) ∷ []
  pub inactive : (i : ℕ) → in_scope_of w scope i ≡ true → is_active (m.clients c) i ≡ false
  pub values : m.values ≡ n.values

abbrev pub GoodActivationsAreMade : Type 0
GoodActivationsAreMade = (table : List ℕ) (n : Node) (c : ℕ) (scope : Option (List ℕ)) → is_there (table_of table) scope ≡ true
    → (WhenAsked table n c (activate scope) λ t y rs. Activated (table_of table) n y c scope rs)
    × (WhenAsked table n c (deactivate scope) λ t y rs. Deactivated (table_of table) n y c scope rs)

-- A module is active for a client by that client's own `active` and `inactive` replies since its open, and by nothing else.
abbrev pub ActivationsAreOnesOwn : Type 0
ActivationsAreOnesOwn = (table : List ℕ) (n : Node) (e : Call) → (step table n e).1.number ≡ 0 → (d i : ℕ)
    → is_active ((step table n e).0.clients d) i
    ≡ active_after (table_of table) d i (is_active (n.clients d) i) e.event (step table n e).1.records

-- A parameter stands in the module that it is said to belong to, by number and by name: no update is filed under another's.
pub record Belongs (w : Table) (p : Placed Parameter) : Type 0 where
  pub m : Module
  pub there : slice_get w.modules p.home ≡ Some m
  pub named : p.module_name ≡ m.name
  pub holds : Memᴰ (parameter p.it) m.accessibles

abbrev pub ParametersBelong : Type 0
ParametersBelong = (w : Table) (k : ℕ) (p : Placed Parameter) → slice_get (parameters w) k ≡ Some p → Belongs w p

-- ## Whoever sends a line gets one reply to it and nobody else does

-- Each client is sent as many final replies as line feeds of it were used: one for each, and nobody else any.
abbrev pub OneReplyForEachLine : Type 0
OneReplyForEachLine = (table : List ℕ) (n : Node) (e : Call) (d : ℕ)
    → length (replies_for d (step table n e).1.records) ≡ feeds_used d e.event (step table n e).1

-- An accepted piece is used up to and including its first line feed, or whole. Without one its bytes join its client's and nothing is sent;
-- with one no bytes of the line stay. No other client's line is touched.
pub record PieceUsed (n m : Node) (c : ℕ) (bs : List ℕ) (x : Answer) : Type 0 where
  pub used : x.used ≡ used_of bs
  pub joined : has_feed bs ≡ false → (m ≡ with_client n c (receive (n.clients c) (before_feed bs))) × (x.records ≡ [])
  pub emptied : has_feed bs ≡ true → line_of (m.clients c) ≡ whole []
  pub others : (d : ℕ) → (d ≡ c → ⊥) → m.clients d ≡ n.clients d

abbrev pub PiecesAreUsed : Type 0
PiecesAreUsed = (table : List ℕ) (n : Node) (c : ℕ) (bs : List ℕ) (t : ℕ) (lent : Lent)
    → let r = step table n (record { event = Piece c bs t; lent = lent }) in
    r.1.number ≡ 0 → PieceUsed n r.0 c bs r.1

-- A line of client c alters nothing: its reply is all that is sent, no value and no time alters, of the clients only the sender's line is emptied,
-- and of what is counted (M-108) only the line and its reply are.
pub record AltersNothing (n m : Node) (rs : List Record) (c : ℕ) (r : Reply) : Type 0 where
  pub alone : rs ≡ final c r ∷ []
  pub values : m.values ≡ n.values
  pub clients : m.clients ≡ put n.clients c (emptied (n.clients c))
  pub counts : m.counts ≡ (counting (line_taken n c) rs).counts

-- A `read` is replied to with the parameter that it asked for, as the node holds it, and sends nothing else.
pub record ReadTold (w : Table) (n : Node) (c : ℕ) (bs : List ℕ) (r : DataReport) (rs : List Record) : Type 0 where
  pub k : ℕ
  pub p : Placed Parameter
  pub there : slice_get (parameters w) k ≡ Some p
  pub asked : request_of n c bs ≡ read p.module_name p.it.name
  pub tells : r ≡ report_of p (n.values k)
  pub alone : rs ≡ final c (reply r) ∷ []

abbrev pub ReadsAreTrue : Type 0
ReadsAreTrue = (table : List ℕ) (n : Node) (e : Call) (c : ℕ) (r : DataReport)
    → Memᴰ (final c (reply r)) (step table n e).1.records
    → OfPiece c (λ bs t. ReadTold (table_of table) n c bs r (step table n e).1.records) e.event

-- what a `read` of the parameter p, by a line of these parts, is replied to with: the value that is held, or the error in its place, with the
-- specifier as sent
unfoldable pub read_reply : Parts → Placed Parameter → Held → ℕ → Reply
read_reply q p (valued v) t = reply (report_of p (showing v t))
read_reply q p (failed f) t = error q.action q.specifier (fault f t)

-- And every good read is answered: one of a parameter that is there, with what the node holds of it.
abbrev pub GoodReadsAreAnswered : Type 0
GoodReadsAreAnswered = (table : List ℕ) (n : Node) (c : ℕ) (m x : List ℕ) (k : ℕ) (p : Placed Parameter)
    → find_parameter (table_of table) m x ≡ Some (k, p) → (bs : List ℕ) (t : ℕ) (lent : Lent)
    → let r = step table n (record { event = Piece c bs t; lent = lent }) in
    r.1.number ≡ 0 → has_feed bs ≡ true → request_of n c bs ≡ read m x
    → AltersNothing n r.0 r.1.records c (read_reply (parts_at n c bs) p (n.values k).held (n.values k).time)

-- A command that is replied to by `done` was asked for by that line, with an argument that fits; the driver is ordered that command with the
-- argument's stored form, and nothing else is sent.
pub record CommandOrdered (w : Table) (n : Node) (c : ℕ) (bs : List ℕ) (t : ℕ) (r : DataReport) (rs : List Record) : Type 0 where
  pub k : ℕ
  pub p : Placed Command
  pub offered : List ℕ
  pub there : slice_get (commands w) k ≡ Some p
  pub asked : request_of n c bs ≡ execute p.module_name p.it.name offered
  pub fitting : argument_verdict p.it.argument offered ≡ fits
  pub tells : r ≡ record { module_name = p.module_name; accessible = p.it.name; held = valued (bytes "null"); time = t }
  pub records : rs ≡ order_command c k (argument_form p.it.argument offered) ∷ final c (done r) ∷ []

abbrev pub CommandsAreOrdered : Type 0
CommandsAreOrdered = (table : List ℕ) (n : Node) (e : Call) (c : ℕ) (r : DataReport)
    → Memᴰ (final c (done r)) (step table n e).1.records
    → OfPiece c (λ bs t. CommandOrdered (table_of table) n c bs t r (step table n e).1.records) e.event

-- And every good command is ordered: one that is there, with an argument that fits. It is done at the time of the line feed, and of the node only
-- the sender's line is emptied, and what is counted alters.
pub record Ordered (n m : Node) (c k : ℕ) (p : Placed Command) (offered : List ℕ) (t : ℕ) (rs : List Record) : Type 0 where
  pub records : rs
      ≡ order_command c k (argument_form p.it.argument offered)
      ∷ final c (done (record { module_name = p.module_name; accessible = p.it.name; held = valued (bytes "null"); time = t }))
      ∷ []
  pub node : m ≡ counting (line_taken n c) rs

abbrev pub GoodCommandsAreOrdered : Type 0
GoodCommandsAreOrdered = (table : List ℕ) (n : Node) (c : ℕ) (m x offered : List ℕ) (k : ℕ) (p : Placed Command)
    → find_command (table_of table) m x ≡ Some (k, p) → argument_verdict p.it.argument offered ≡ fits
    → WhenAsked table n c (execute m x offered) λ t y rs. Ordered n y c k p offered t rs

-- ## A change that is refused alters nothing for anyone

-- A line that is answered by an error alters nothing.
abbrev pub ErrorsAlterNothing : Type 0
ErrorsAlterNothing = (table : List ℕ) (n : Node) (e : Call) (c : ℕ) (a s : List ℕ) (x : Denial)
    → Memᴰ (final c (error a s x)) (step table n e).1.records
    → AltersNothing n (step table n e).0 (step table n e).1.records c (error a s x)

-- And every bad change is refused: one of a parameter that is there, but is readonly, or by a value that doesn't fit, with what it leaves out (M-113). The
-- error is of the class that comes first in document 01's order.
unfoldable pub refusal : (readonly : Bool) → Verdict → Option Class
refusal true v = Some ReadOnly
refusal false fits = None
refusal false rangeError = Some RangeError
refusal false wrongType = Some WrongType
refusal false badJSON = Some BadJSON

abbrev pub BadChangesAreRefused : Type 0
BadChangesAreRefused = (table : List ℕ) (n : Node) (c : ℕ) (m x offered : List ℕ) (k : ℕ) (p : Placed Parameter)
    → find_parameter (table_of table) m x ≡ Some (k, p) → (e : Class) → refusal p.it.readonly (judged_at n.values (k, p) offered) ≡ Some e
    → (bs : List ℕ) (t : ℕ) (lent : Lent) → let r = step table n (record { event = Piece c bs t; lent = lent }) in
    r.1.number ≡ 0 → has_feed bs ≡ true → request_of n c bs ≡ change m x offered
    → AltersNothing n r.0 r.1.records c (error (parts_at n c bs).action (parts_at n c bs).specifier (class e))

-- ## A check tells what a change would come to (M-107)

-- Of a check and a change of the same, each by client c from the node n: p and q are the parts of their lines, m and m' the nodes that they leave, rs
-- and rs' what they send. Either both are refused with the same error, or `checked` tells what `changed` does. Nothing is stored by the check, and
-- nothing else is sent.
pub data AsChange (n : Node) (c : ℕ) (p : Parts) (m : Node) (rs : List Record) (q : Parts) (m' : Node) (rs' : List Record) : Type 0 where
  both_refused : (e : Denial) → AltersNothing n m rs c (error p.action p.specifier e)
      → AltersNothing n m' rs' c (error q.action q.specifier e) → AsChange n c p m rs q m' rs'
  both_let_in : (r : DataReport) → AltersNothing n m rs c (checked r) → Memᴰ (final c (changed r)) rs' → AsChange n c p m rs q m' rs'

-- "judged exactly as `change` would be": of two lines that come at the same time
abbrev pub ChecksAreAsChanges : Type 0
ChecksAreAsChanges = (table : List ℕ) → is_some (table_of table).edition ≡ true → (n : Node) (c t : ℕ) (a x offered : List ℕ)
    (bs bs' : List ℕ) (lent lent' : Lent)
    → let r = step table n (record { event = Piece c bs t; lent = lent }) in
    let r' = step table n (record { event = Piece c bs' t; lent = lent' }) in
    r.1.number ≡ 0 → has_feed bs ≡ true → request_of n c bs ≡ check a x offered
    → r'.1.number ≡ 0 → has_feed bs' ≡ true → request_of n c bs' ≡ change a x offered
    → AsChange n c (parts_at n c bs) r.0 r.1.records (parts_at n c bs') r'.0 r'.1.records

-- a line's parts: its action, and what follows
abbrev pub saying : List ℕ → List ℕ → List ℕ → Parts
saying action specifier payload = record { action = action; specifier = specifier; payload = payload }

-- The same by the lines' words: of `check` and `change` with the same specifier and the same data, whatever these are. Where the specifier has no good names
-- both are refused with ProtocolError, and each error has the specifier as it was sent: `error_check`, and `error_change`.
abbrev pub CheckLinesAreAsChangeLines : Type 0
CheckLinesAreAsChangeLines = (table : List ℕ) → is_some (table_of table).edition ≡ true → (n : Node) (c t : ℕ) (specifier payload : List ℕ)
    (bs bs' : List ℕ) (lent lent' : Lent)
    → let p = saying (bytes "check") specifier payload in
    let p' = saying (bytes "change") specifier payload in
    let r = step table n (record { event = Piece c bs t; lent = lent }) in
    let r' = step table n (record { event = Piece c bs' t; lent = lent' }) in
    r.1.number ≡ 0 → has_feed bs ≡ true → parts_at n c bs ≡ p
    → r'.1.number ≡ 0 → has_feed bs' ≡ true → parts_at n c bs' ≡ p'
    → AsChange n c p r.0 r.1.records p' r'.0 r'.1.records

-- A call that is refused by a number uses nothing, writes nothing and alters nothing.
pub record Refused (n m : Node) (x : Answer) : Type 0 where
  pub node : m ≡ n
  pub used : x.used ≡ 0
  pub records : x.records ≡ []
  pub steps : x.steps ≡ 0

abbrev pub RefusalsAlterNothing : Type 0
RefusalsAlterNothing = (table : List ℕ) (n : Node) (e : Call) (k : ℕ)
    → (step table n e).1.number ≡ suc k → Refused n (step table n e).0 (step table n e).1
