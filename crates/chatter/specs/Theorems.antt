-- Request M-112, "Chatter doesn't reach me", of the plain node. What stands in quotation marks is the request's own. Assumes nothing.
use Rattle.std.specs.Prelude.{ℕ, false, ◌&&◌, List, [], ◌∷◌, ◌↔◌, ◌≡◌, eqb, Some, slice_get}
use Rattle.table.specs.Layout.{table_of}
use Rattle.message.specs.Reply.{DataReport, pong, changed}
use Rattle.outbox.specs.Outbox.{Record, final, order_change, order_command}
use Rattle.plain.specs.Node.{Node, begin, is_open, line_of}
use Rattle.plain.specs.Calls.{Call, start_number}
use Rattle.plain.specs.History.{answers, finish, sent, AllAccepted, byte, mark, feeds, opens, closes, taken, IsSecond}
use Rattle.rule.specs.Records.{replies_for}
use Rattle.chatter.specs.Without.{Choice, without, less_lines, sent_to, orders, orders_less}

-- "any lines of other clients that are not accepted changes": none of the chosen lines is client c's, and none was answered by `changed`, as an
-- accepted change is, among the records rs that the history sent. Client d's reply of number i answers its line of that number. [H-12]
pub record MayGo (c : ℕ) (f : Choice) (rs : List Record) : Type 0 where
  -- "of other clients": client c's own lines stay [H-12]
  pub others : (i : ℕ) → f c i ≡ false
  -- "that are not accepted changes" [H-12]
  pub unchanged : (d i : ℕ) (r : DataReport) → slice_get (replies_for d rs) i ≡ Some (changed r) → f d i ≡ false

-- What the request says of client c, of the history h, from the node n on, and of k, which has the chosen lines no more. [H-12]
pub record Unreached (table : List ℕ) (n : Node) (c : ℕ) (f : Choice) (h k : List Call) : Type 0 where
  pub accepted : AllAccepted (answers table n k)
  -- "Everything that this client is sent is the same": final replies and updates, in order
  pub same_records : sent_to c (sent (answers table n k)) ≡ sent_to c (sent (answers table n h))
  -- "and so are all values, errors": each parameter's value, or the error in its place, and its time
  pub same_values : (finish table n k).values ≡ (finish table n h).values
  -- "and this client's counts"
  pub same_counts : (finish table n k).counts c ≡ (finish table n h).counts c
  -- the client itself: whether it is open, its unfinished line, its active modules
  pub same_client : (finish table n k).clients c ≡ (finish table n h).clients c
  -- and who else is open, with which unfinished line
  pub same_open : (d : ℕ) → is_open ((finish table n k).clients d) ≡ is_open ((finish table n h).clients d)
  pub same_lines : (d : ℕ) → line_of ((finish table n k).clients d) ≡ line_of ((finish table n h).clients d)
  -- "The driver's orders may differ, by the left-out commands only."
  pub same_orders : orders (sent (answers table n k)) ≡ orders_less f (λ d. 0) (sent (answers table n h))

-- After an accepted start, for every history, every client and every choice of lines that may go: of the history without them, in every cutting and
-- mingling that demand 3 lets a second history have. [H-12]
abbrev pub ChatterDoesNotReach : Type 0
ChatterDoesNotReach = (table : List ℕ) (area time : ℕ) → start_number table area time ≡ 0 → (h k : List Call) (c : ℕ) (f : Choice)
    → let n = begin (table_of table) time in
    MayGo c f (sent (answers table n h)) → IsSecond table n (less_lines table n f h) k → Unreached table n c f h k

-- ## Worked out

-- the first line of client 3, and the second
abbrev pub first_of3 : Choice
first_of3 d i = eqb d 3 && eqb i 0

abbrev pub second_of3 : Choice
second_of3 d i = eqb d 3 && eqb i 1

-- Client 3's `pq` is mingled with client 2's `a`, and `r` is not ended; 3 closes and opens, and sends `s`. Then of two commands of client 3, the
-- first before its first reply and the second after it, one is left out with its line.
pub record Worked : Type 0 where
  pub first : without first_of3 (λ d. 0) (byte 3 112 ∷ byte 2 97 ∷ byte 3 113 ∷ mark (feeds 3 7) ∷ mark (feeds 2 8) ∷ byte 3 114 ∷ mark (closes 3 9) ∷ [])
      ≡ byte 2 97 ∷ mark (feeds 2 8) ∷ byte 3 114 ∷ mark (closes 3 9) ∷ []
  pub second : without second_of3 (λ d. 0)
      (byte 3 112 ∷ mark (feeds 3 7) ∷ byte 3 114 ∷ mark (closes 3 8) ∷ mark (opens 3 9) ∷ byte 3 115 ∷ mark (feeds 3 9) ∷ [])
      ≡ byte 3 112 ∷ mark (feeds 3 7) ∷ byte 3 114 ∷ mark (closes 3 8) ∷ mark (opens 3 9) ∷ []
  pub commands : orders_less second_of3 (λ d. 0)
      (order_command 3 0 [] ∷ final 3 (pong [] 0) ∷ final 2 (pong [] 0) ∷ order_command 3 1 [] ∷ order_change 2 4 [] ∷ order_command 2 0 [] ∷ [])
      ≡ order_command 3 0 [] ∷ order_change 2 4 [] ∷ order_command 2 0 [] ∷ []

-- ## The history without the chosen lines

-- For every history and every choice of lines, whether or not they may go.
pub record LeftOut (table : List ℕ) (n : Node) (f : Choice) (h : List Call) : Type 0 where
  -- all its calls are accepted, and have exactly the items that stay
  pub accepted : AllAccepted (answers table n (less_lines table n f h))
  pub items : taken table n (less_lines table n f h) ≡ without f (λ d. 0) (taken table n h)
  -- so that it is its own second history
  pub second : IsSecond table n (less_lines table n f h) (less_lines table n f h)
  -- with nothing left out, its second histories are those of the history itself: what is said of them is demand 3's second half
  pub whole : ((d i : ℕ) → f d i ≡ false) → (k : List Call) → IsSecond table n (less_lines table n f h) k ↔ IsSecond table n h k

abbrev pub LinesCanBeLeftOut : Type 0
LinesCanBeLeftOut = (table : List ℕ) (area time : ℕ) → start_number table area time ≡ 0 → (h : List Call) (f : Choice)
    → LeftOut table (begin (table_of table) time) f h
