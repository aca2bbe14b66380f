-- Request M-108 about the code, beside demand 3: the counts that a state has of a client are those of the calls since its last accepted open. What stands in
-- quotation marks is the request's own. Lists are taken as their single readings. Assumes nothing.
use Rattle.std.specs.Prelude.{ℕ, min, false, List, ◌≡◌}
use Rattle.counter.specs.Counts.{highest}
use Rattle.table.specs.Layout.{table_of}
use Rattle.outbox.specs.Outbox.{Record}
use Rattle.outbox.specs.Sent.{errors_sent, updates_sent}
use Rattle.plain.specs.Node.{Node, begin}
use Rattle.plain.specs.Calls.{Open, Lent, Call, Answer}
use Rattle.plain.specs.History.{Heard, sent, taken}
use Rattle.lists.specs.Histories.{Act, Notice, unlisted}
use Rattle.second.specs.Counts.{feeds_in, opens_in}
use Rattle.promise.specs.Run.{Kit, Called, Run}
use Rattle.history.specs.Demand.{Past, ReadAs}
use Rattle.history.specs.Chatter.{node_of}

-- "it equals the number of such records or used line feeds in the history": k is what a history of the single calls h, from the node n on, left, and rs
-- are the records that were read off its bytes. "each stops at 4,294,967,295"
pub record CountedSince (table : List ℕ) (d : ℕ) (n : Node) (h : List Call) (k : Kit) (rs : List Record) : Type 0 where
  pub lines : ((node_of table k).counts d).lines ≡ min (feeds_in d (taken table n h)) highest
  pub errors : ((node_of table k).counts d).errors ≡ min (errors_sent d rs) highest
  pub updates : ((node_of table k).counts d).updates ≡ min (updates_sent d rs) highest

-- After an accepted start: since an open of client d that was accepted, for all calls after it by which it is not opened again, though it may be closed; and
-- since the start as long as it is not opened.
pub record CodeCountsAreTrue : Type 0 where
  pub since_open : (table : List ℕ) (time area : ℕ) (before : List Act) (start : Kit) (i : List Notice) → Past table time area 0 before start i
      → (d t : ℕ) (lent : Lent) (opened : Kit) (a : Heard) → Called table start (record { event = Open d t; lent = lent }) opened a → a.number ≡ 0
      → (h : List Act) (k : Kit) (l : List Notice) → Run table opened h k l
      → opens_in d (taken table (node_of table opened) (unlisted table (node_of table opened) h)) ≡ false
      → (x : List Answer) → ReadAs l x → CountedSince table d (node_of table opened) (unlisted table (node_of table opened) h) k (sent x)
  pub since_start : (table : List ℕ) (time area : ℕ) (h : List Act) (k : Kit) (l : List Notice) → Past table time area 0 h k l
      → (d : ℕ) → let n = begin (table_of table) time in opens_in d (taken table n (unlisted table n h)) ≡ false
      → (x : List Answer) → ReadAs l x → CountedSince table d n (unlisted table n h) k (sent x)
