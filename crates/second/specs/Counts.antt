-- "Until a count stops, it equals the number of such records or used line feeds in the history since the open." (M-108). Assumes nothing.
use Rattle.std.specs.Prelude.{ℕ, ◌+◌, min, Bool, false, cond, ◌||◌, List, [], ◌∷◌, ◌≡◌, eqb}
use Rattle.counter.specs.Counts.{highest}
use Rattle.outbox.specs.Sent.{errors_sent, updates_sent}
use Rattle.table.specs.Layout.{table_of}
use Rattle.plain.specs.Node.{Node, begin}
use Rattle.plain.specs.Calls.{Open, Lent, Call, start_number}
use Rattle.plain.specs.History.{step, answers, finish, sent, feeds, opens, closes, reads, fails, Item, byte, mark, taken}

-- how many "used line feeds" of client d there are among items [H-11]
unfoldable pub feeds_in : ℕ → List Item → ℕ
feeds_in d [] = 0
feeds_in d (byte c b ∷ x) = feeds_in d x
feeds_in d (mark (feeds c t) ∷ x) = cond (eqb d c) 1 0 + feeds_in d x
feeds_in d (mark (opens c t) ∷ x) = feeds_in d x
feeds_in d (mark (closes c t) ∷ x) = feeds_in d x
feeds_in d (mark (reads p bs t) ∷ x) = feeds_in d x
feeds_in d (mark (fails p k t) ∷ x) = feeds_in d x

-- whether client d is opened among them [H-11]
unfoldable pub opens_in : ℕ → List Item → Bool
opens_in d [] = false
opens_in d (byte c b ∷ x) = opens_in d x
opens_in d (mark (feeds c t) ∷ x) = opens_in d x
opens_in d (mark (opens c t) ∷ x) = eqb d c || opens_in d x
opens_in d (mark (closes c t) ∷ x) = opens_in d x
opens_in d (mark (reads p bs t) ∷ x) = opens_in d x
opens_in d (mark (fails p k t) ∷ x) = opens_in d x

-- At the end of the history h, which begins at the node n, client d's counts are those of h: of the line feeds that its accepted calls used, and of
-- the records that were sent. "each stops at 4,294,967,295" [H-11]
pub record Counted (table : List ℕ) (n : Node) (d : ℕ) (h : List Call) : Type 0 where
  pub lines : ((finish table n h).counts d).lines ≡ min (feeds_in d (taken table n h)) highest
  pub errors : ((finish table n h).counts d).errors ≡ min (errors_sent d (sent (answers table n h))) highest
  pub updates : ((finish table n h).counts d).updates ≡ min (updates_sent d (sent (answers table n h))) highest

-- After each accepted open of client d, at whatever node, for every history in which it is not opened again, though it may be closed; and after a
-- start as long as it is not opened.
pub record CountsAreTrue : Type 0 where
  pub since_open : (table : List ℕ) (n : Node) (d t : ℕ) (lent : Lent) → let r = step table n (record { event = Open d t; lent = lent }) in
      r.1.number ≡ 0 → (h : List Call) → opens_in d (taken table r.0 h) ≡ false → Counted table r.0 d h
  pub since_start : (table : List ℕ) (area time : ℕ) → start_number table area time ≡ 0 → (d : ℕ) (h : List Call)
      → opens_in d (taken table (begin (table_of table) time) h) ≡ false → Counted table (begin (table_of table) time) d h
