-- Demand 3's second half, of the plain node. Assumes nothing.
use Rattle.std.specs.Prelude.{ℕ, zero, suc, Bool, true, false, List, [], ◌∷◌, ◌++◌, ◌↔◌, ◌≡◌, eqb}
use Rattle.table.specs.Layout.{table_of}
use Rattle.plain.specs.Node.{Node, begin}
use Rattle.plain.specs.Calls.{Event, Open, Close, Piece, Reading, Unreadable, Lent, Call, start_number, has_feed}
use Rattle.plain.specs.History.{step, answers, finish, sent, own, marks, standing, items_of, taken, run_node, run_sent, joined, Roomy, IsSecond, Alike}

-- A history leaves the node, and sends the records, that the items its accepted calls used leave and send, one item after another.
pub record AsItems (table : List ℕ) (n : Node) (h : List Call) : Type 0 where
  pub node : finish table n h ≡ run_node (table_of table) n (taken table n h)
  pub records : sent (answers table n h) ≡ joined (run_sent (table_of table) n (taken table n h))

abbrev pub HistoriesAreTheirItems : Type 0
HistoriesAreTheirItems = (table : List ℕ) (n : Node) (h : List Call) → AsItems table n h

-- After an accepted start, for every history and every second history of it: all calls of the second are accepted, the same bytes are
-- sent in the same order, and the ends are equal.
abbrev pub SecondHistoriesAreAlike : Type 0
SecondHistoriesAreAlike = (table : List ℕ) (area time : ℕ) → start_number table area time ≡ 0 → (h k : List Call)
    → IsSecond table (begin (table_of table) time) h k → Alike table (begin (table_of table) time) h k

-- a call that is kept where its number is 0
unfoldable pub keep_call : ℕ → Call → List Call → List Call
keep_call zero e l = e ∷ l
keep_call (suc k) e l = l

-- the accepted calls of a history
unfoldable pub accepted_calls : List ℕ → Node → List Call → List Call
accepted_calls table n [] = []
accepted_calls table n (e ∷ h) = keep_call (step table n e).1.number e (accepted_calls table (step table n e).0 h)

-- There are second histories: the refused calls left out, the rest is one.
abbrev pub AcceptedCallsAreSecond : Type 0
AcceptedCallsAreSecond = (table : List ℕ) (area time : ℕ) → start_number table area time ≡ 0 → (h : List Call)
    → IsSecond table (begin (table_of table) time) h (accepted_calls table (begin (table_of table) time) h)

-- ## A second history that is cut and mingled anew is one too

-- the first event may pass the second: where it is an empty piece, the second leaves its client open, or not, as it was
abbrev pub EmptyPasses : Event → Event → Type 0
EmptyPasses e f = (c t : ℕ) (b : Bool) → e ≡ Piece c [] t → standing b (own c (items_of f)) ≡ b

-- Two neighbouring calls of a second history may change places, if each client's own items stay in order, and so do the common marks,
-- and no empty piece, which has no item, passes its client's open or close.
abbrev pub CallsMayChangePlaces : Type 0
CallsMayChangePlaces = (table : List ℕ) (n : Node) (h l r : List Call) (e f : Call)
    → ((c : ℕ) → own c (items_of e.event ++ items_of f.event) ≡ own c (items_of f.event ++ items_of e.event))
    → marks (items_of e.event ++ items_of f.event) ≡ marks (items_of f.event ++ items_of e.event)
    → EmptyPasses e.event f.event → EmptyPasses f.event e.event
    → IsSecond table n h (l ++ (e ∷ f ∷ r)) → IsSecond table n h (l ++ (f ∷ e ∷ r))

-- whose an event is; what a driver tells is no client's
unfoldable pub event_of : ℕ → Event → Bool
event_of d (Open c t) = eqb d c
event_of d (Close c t) = eqb d c
event_of d (Piece c bs t) = eqb d c
event_of d (Reading p bs t) = false
event_of d (Unreadable p k t) = false

-- So a piece without a line feed may change places with the call after it or before it, if that is another's: what a driver tells, or another
-- client's piece, with a line feed or without, open or close.
abbrev pub PiecesMayBeMingled : Type 0
PiecesMayBeMingled = (table : List ℕ) (n : Node) (h l r : List Call) (c t : ℕ) (bs : List ℕ) (lent : Lent) (e : Call)
    → has_feed bs ≡ false → event_of c e.event ≡ false
    → let f : Call = record { event = Piece c bs t; lent = lent } in
    IsSecond table n h (l ++ (f ∷ e ∷ r)) ↔ IsSecond table n h (l ++ (e ∷ f ∷ r))

-- A piece may be cut in two anywhere before its line feed, or anywhere if it has none, and two such parts may be joined. The first part
-- may come at any time that is no later than the limit, each part may be empty, and the buffers may be others that are no smaller than
-- asked.
abbrev pub PiecesMayBeCut : Type 0
PiecesMayBeCut = (table : List ℕ) (n : Node) (h l r : List Call) (c t s : ℕ) (x y z : Lent) (xs ys : List ℕ) → has_feed xs ≡ false
    → let e : Call = record { event = Piece c (xs ++ ys) t; lent = x } in
    let f : Call = record { event = Piece c xs s; lent = y } in
    let g : Call = record { event = Piece c ys t; lent = z } in
    Roomy e → Roomy f → Roomy g → IsSecond table n h (l ++ (e ∷ r)) ↔ IsSecond table n h (l ++ (f ∷ g ∷ r))

-- "The caller offers the rest again": what stands after a piece's line feed is not used and doesn't count, so a piece may be offered with any bytes
-- after its line feed, those that are offered again among them.
abbrev pub UnusedMayBeOffered : Type 0
UnusedMayBeOffered = (table : List ℕ) (n : Node) (h l r : List Call) (c t : ℕ) (lent : Lent) (xs ys : List ℕ) → has_feed xs ≡ true
    → let e : Call = record { event = Piece c xs t; lent = lent } in
    let f : Call = record { event = Piece c (xs ++ ys) t; lent = lent } in
    IsSecond table n h (l ++ (e ∷ r)) ↔ IsSecond table n h (l ++ (f ∷ r))
