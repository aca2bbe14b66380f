-- Demand 3 about the code, as one claim about a history and its second histories; and that who reads the bytes of a history reads the plain
-- node's records. A history has calls and lists of readings, which are taken as their single readings (request M-106). What stands in quotation marks
-- is document 01's. Assumes nothing.
use Rattle.std.specs.Prelude.{ℕ, ◌+◌, ◌≤◌, false, List, [], ◌∷◌, ◌++◌, map, ◌≢◌, ◌≡◌, length}
use Rattle.outbox.specs.Outbox.{Record, encode_all}
use Rattle.outbox.specs.Theorems.{AllWellFormed}
use Rattle.plain.specs.Node.{Node}
use Rattle.plain.specs.Calls.{Call, Answer, start_number, started}
use Rattle.plain.specs.History.{Heard, answers, sent}
use Rattle.lists.specs.Lists.{list_number}
use Rattle.lists.specs.Histories.{Act, single, list, results, ends, answers_of, Notice, notice, unlisted, IsSecondHistory}
use Rattle.state.specs.View.{view}
use Rattle.rule.specs.Records.{replies_for, feeds_used}
use Rattle.promise.specs.declared.Done.{Done}
use Rattle.promise.specs.Promise.{Begins}
use Rattle.promise.specs.Run.{Kit, kit, Run}

-- all bytes that were sent, in order
unfoldable pub all_sent : List Notice → List ℕ
all_sent [] = []
all_sent (a ∷ l) = a.heard.written ++ all_sent l

-- the line feeds of client d that the calls used
unfoldable pub all_feeds : ℕ → List Call → List Answer → ℕ
all_feeds d [] l = 0
all_feeds d (e ∷ h) [] = 0
all_feeds d (e ∷ h) (a ∷ l) = feeds_used d e.event a + all_feeds d h l

-- what holds of every number that was answered
abbrev pub EachNumber : (ℕ → Type 0) → List Notice → Type 0
EachNumber P [] = Unit {0}
EachNumber P (a ∷ l) = P a.heard.number × EachNumber P l

-- no call is refused, and no list as a whole (where a list stops, `AsPlain` says)
abbrev pub AllLetIn : List ℕ → List Act → List Notice → Type 0
AllLetIn table [] [] = Unit {0}
AllLetIn table [] (a ∷ l) = ⊥
AllLetIn table (e ∷ h) [] = ⊥
AllLetIn table (single e ∷ h) (a ∷ l) = (a.heard.number ≡ 0) × AllLetIn table h l
AllLetIn table (list x ∷ h) (a ∷ l) = (list_number table false x ≡ 0) × AllLetIn table h l

-- the answers and the end are the plain node's: of a history h from the plain node n on, heard as l, that leaves k
pub record AsPlain (table : List ℕ) (n : Node) (h : List Act) (k : Kit) (l : List Notice) : Type 0 where
  -- numbers, used counts, written bytes, steps, and of a list how many readings were taken
  pub heard_as : l ≡ map notice (results table n h)
  -- "9 never comes"
  pub never9 : EachNumber (λ i. i ≢ 9) l
  -- each client is sent one final reply for each of its line feeds that was used
  pub replies : (d : ℕ) → length (replies_for d (sent (answers_of (results table n h))))
      ≡ all_feeds d (unlisted table n h) (answers table n (unlisted table n h))
  -- "who is open; each client's active modules and its bytes since its open or last line feed ..; each parameter's value and time"
  pub end : view table k.state k.values ≡ ends table n h

-- the same bytes, cut and mingled in any other way, lent another index or none, and the same readings, listed anew or not: the same is sent, and the
-- ends are equal; only the steps are each run's own
pub record AsFirst (table : List ℕ) (k : Kit) (l : List Notice) (h' : List Act) (k' : Kit) (l' : List Notice) : Type 0 where
  pub accepted : AllLetIn table h' l'
  pub same_bytes : all_sent l' ≡ all_sent l
  pub same_end : view table k'.state k'.values ≡ view table k.state k.values

-- a start on this table at this time, lent a values area of that length and answered with that number, and the calls h after it, on the caller's
-- own values area, each of which kept the promise that its function makes; k is what they leave, and l is what is heard of them
pub data Past (table : List ℕ) (time : ℕ) : ℕ → ℕ → List Act → Kit → List Notice → Type 0 where
  past : (lent values : List ℕ) (r : Done) → Begins table lent time r → (h : List Act) (k : Kit) (l : List Notice)
      → Run table (kit r.state values) h k l → Past table time (length lent) r.number h k l

-- Of a history: it goes as the plain node does, which is fed the same start and calls. If its start was accepted, then for every second history of
-- it, with a start of its own at the same time that is lent a values area no smaller than asked: that start is accepted too, and it goes as the
-- first does.
pub record Demanded (table : List ℕ) (time area number : ℕ) (h : List Act) (k : Kit) (l : List Notice) : Type 0 where
  pub start : number ≡ start_number table area time
  pub as_plain : AsPlain table (started table area time) h k l
  pub as_first : number ≡ 0 → (area' number' : ℕ) (h' : List Act) (k' : Kit) (l' : List Notice) → 16384 ≤ area'
      → Past table time area' number' h' k' l' → IsSecondHistory table (started table area time) h h'
      → (number' ≡ 0) × AsFirst table k l h' k' l'

-- Demand 3, "one claim about a history, not one for each call": of every history, from any start on. [H-2, H-5]
abbrev pub Demand3 : Type 0
Demand3 = (table : List ℕ) (time area number : ℕ) (h : List Act) (k : Kit) (l : List Notice)
    → Past table time area number h k l → Demanded table time area number h k l

-- ## What is read off the bytes

-- the bytes that were heard are the plain node's records, which are well formed, and who reads well formed records off them reads these
pub record ReadsAs (a : Heard) (x : Answer) : Type 0 where
  pub formed : AllWellFormed x.records
  pub is : encode_all x.records ≡ a.written
  pub only : (rs : List Record) → AllWellFormed rs → encode_all rs ≡ a.written → rs ≡ x.records

-- so of each answer; the answers are as many
abbrev pub ReadAs : List Notice → List Answer → Type 0
ReadAs [] [] = Unit {0}
ReadAs [] (x ∷ xs) = ⊥
ReadAs (a ∷ l) [] = ⊥
ReadAs (a ∷ l) (x ∷ xs) = ReadsAs a.heard x × ReadAs l xs

-- So the user's rule, which is about the plain node's records, is about the bytes that the code writes after an accepted start.
abbrev pub BytesAreRead : Type 0
BytesAreRead = (table : List ℕ) (time area : ℕ) (h : List Act) (k : Kit) (l : List Notice)
    → Past table time area 0 h k l → ReadAs l (answers_of (results table (started table area time) h))
