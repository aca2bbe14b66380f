-- A history without some of its lines, what one client is sent, and the driver's orders of the lines that stay. Assumes nothing.
use Rattle.std.specs.Prelude.{ℕ, suc, Bool, true, false, cond, not, ◌&&◌, List, [], ◌∷◌, ◌++◌, map, eqb}
use Rattle.outbox.specs.Outbox.{Record, final, update, order_change, order_command}
use Rattle.plain.specs.Node.{Node, put}
use Rattle.plain.specs.Calls.{Open, Close, Piece, Reading, Unreadable, Call, with_area, with_outbox}
use Rattle.plain.specs.History.{Item, byte, mark, feeds, opens, closes, reads, fails, cons_if, own, taken}

-- A choice of lines: whether client d's line of number i is left out. A client's lines are numbered from 0 by their line feeds, from the start
-- on, through closes and opens.
abbrev pub Choice : Type 0
Choice = ℕ → ℕ → Bool

-- how many lines, or replies, each client has had, after one more of client d
abbrev pub one_more : (ℕ → ℕ) → ℕ → ℕ → ℕ
one_more k d = put k d (suc (k d))

-- ## Items

-- whether the line that a client is within before these items of its own is ended, by a line feed; an open, a close or the end leave it
-- unfinished [H-12]
unfoldable pub is_ended : List Item → Bool
is_ended [] = false
is_ended (byte c b ∷ x) = is_ended x
is_ended (mark (feeds c t) ∷ x) = true
is_ended (mark (opens c t) ∷ x) = false
is_ended (mark (closes c t) ∷ x) = false
is_ended (mark (reads p bs t) ∷ x) = is_ended x
is_ended (mark (fails p k t) ∷ x) = is_ended x

-- "Leave out, whole with their line feeds, any lines .., keeping all else and its times": each byte goes that stands in a line which is ended and
-- chosen, and that line's feed. Each client d had k d lines before. [H-12]
unfoldable pub without : Choice → (ℕ → ℕ) → List Item → List Item
without f k [] = []
without f k (byte d b ∷ x) = cons_if (not (is_ended (own d x) && f d (k d))) (byte d b) (without f k x)
without f k (mark (feeds d t) ∷ x) = cons_if (not (f d (k d))) (mark (feeds d t)) (without f (one_more k d) x)
without f k (mark (opens d t) ∷ x) = mark (opens d t) ∷ without f k x
without f k (mark (closes d t) ∷ x) = mark (closes d t) ∷ without f k x
without f k (mark (reads p bs t) ∷ x) = mark (reads p bs t) ∷ without f k x
without f k (mark (fails p j t) ∷ x) = mark (fails p j t) ∷ without f k x

-- ## Histories

-- a call for one item, lent no more than is asked for [H-12]
unfoldable pub single : Item → Call
single (byte c b) = with_outbox (Piece c (b ∷ []) 0) 16384 32768
single (mark (feeds c t)) = with_outbox (Piece c (10 ∷ []) t) 16384 32768
single (mark (opens c t)) = with_area (Open c t) 16384
single (mark (closes c t)) = with_area (Close c t) 16384
single (mark (reads p bs t)) = with_outbox (Reading p bs t) 16384 32768
single (mark (fails p k t)) = with_outbox (Unreadable p k t) 16384 32768

-- "Take a history as in demand 3, refused calls and unused bytes left out": of the items that h took from the node n on, those that stay without the
-- chosen lines, as a history with a call for each [H-12]
unfoldable pub less_lines : List ℕ → Node → Choice → List Call → List Call
less_lines table n f h = map single (without f (λ d. 0) (taken table n h))

-- ## Records

-- what client c is sent, in order: its final replies and its updates [H-12]
unfoldable pub sent_to : ℕ → List Record → List Record
sent_to c [] = []
sent_to c (final d r ∷ rs) = cond (eqb c d) (final d r ∷ []) [] ++ sent_to c rs
sent_to c (update d r ∷ rs) = cond (eqb c d) (update d r ∷ []) [] ++ sent_to c rs
sent_to c (order_change d p v ∷ rs) = sent_to c rs
sent_to c (order_command d p v ∷ rs) = sent_to c rs

-- the driver's orders, in order [H-12]
unfoldable pub orders : List Record → List Record
orders [] = []
orders (final d r ∷ rs) = orders rs
orders (update d r ∷ rs) = orders rs
orders (order_change d p v ∷ rs) = order_change d p v ∷ orders rs
orders (order_command d p v ∷ rs) = order_command d p v ∷ orders rs

-- The same less the commands of the chosen lines. A line's order stands before its reply, and each line has one reply: so the order is of
-- its client's line that has the number of the replies to that client that stand before it. Each client d had k d replies before. [H-12]
unfoldable pub orders_less : Choice → (ℕ → ℕ) → List Record → List Record
orders_less f k [] = []
orders_less f k (final d r ∷ rs) = orders_less f (one_more k d) rs
orders_less f k (update d r ∷ rs) = orders_less f k rs
orders_less f k (order_change d p v ∷ rs) = order_change d p v ∷ orders_less f k rs
orders_less f k (order_command d p v ∷ rs) = cond (f d (k d)) [] (order_command d p v ∷ []) ++ orders_less f k rs
