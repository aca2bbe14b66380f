-- Runs: calls one after another on one table, each of which kept its promise. Assumes nothing.
use Rattle.std.specs.Prelude.{ℕ, ◌<◌, List, [], ◌∷◌, length, take}
use Rattle.plain.specs.Calls.{Open, Close, Piece, Reading, Unreadable, Call, with_area, with_outbox, beside}
use Rattle.plain.specs.History.{Heard}
use Rattle.lists.specs.declared.Row.{Row}
use Rattle.lists.specs.Lists.{Listing}
use Rattle.lists.specs.Histories.{Act, single, list, Notice}
use Rattle.state.specs.declared.State.{State}
use Rattle.promise.specs.declared.Done.{Done}
use Rattle.promise.specs.declared.Listed.{Listed}
use Rattle.promise.specs.Promise.{Kept}
use Rattle.promise.specs.Listed.{listing, KeptList}

-- what a caller keeps between calls
pub record Kit : Type 0 where
  pub state : State
  pub values : List ℕ

abbrev pub kit : State → List ℕ → Kit
kit s values = record { state = s; values = values }

-- what is heard of an answer, by the outbox that it left
abbrev pub hears : Done → List ℕ → Heard
hears r outbox = record { number = r.number; used = r.used; written = take r.written outbox; steps = r.steps }

-- A call, which kept its promise, of one of the five functions of a single event after a start: what was handed in, the call as the plain node takes
-- it, what was handed back, and what was heard.
pub data Called (table : List ℕ) : Kit → Call → Kit → Heard → Type 0 where
  by_open : (s : State) (values index : List ℕ) (c t : ℕ) (r : Done)
      → Kept table (beside index (with_area (Open c t) (length values))) s values [] r values []
      → Called table (kit s values) (beside index (with_area (Open c t) (length values))) (kit r.state values) (hears r [])
  by_close : (s : State) (values index : List ℕ) (c t : ℕ) (r : Done)
      → Kept table (beside index (with_area (Close c t) (length values))) s values [] r values []
      → Called table (kit s values) (beside index (with_area (Close c t) (length values))) (kit r.state values) (hears r [])
  by_piece : (s : State) (values outbox index : List ℕ) (c : ℕ) (bs : List ℕ) (t : ℕ) (r : Done) (values' outbox' : List ℕ)
      → Kept table (beside index (with_outbox (Piece c bs t) (length values) (length outbox))) s values outbox r values' outbox'
      → Called table
      (kit s values)
      (beside index (with_outbox (Piece c bs t) (length values) (length outbox)))
      (kit r.state values')
      (hears r outbox')
  by_reading : (s : State) (values outbox index : List ℕ) (p : ℕ) (bs : List ℕ) (t : ℕ) (r : Done) (values' outbox' : List ℕ)
      → Kept table (beside index (with_outbox (Reading p bs t) (length values) (length outbox))) s values outbox r values' outbox'
      → Called table
      (kit s values)
      (beside index (with_outbox (Reading p bs t) (length values) (length outbox)))
      (kit r.state values')
      (hears r outbox')
  -- it doesn't write the values area [C-8, H-5]
  by_unreadable : (s : State) (values outbox index : List ℕ) (p k t : ℕ) (r : Done) (outbox' : List ℕ)
      → Kept table (beside index (with_outbox (Unreadable p k t) (length values) (length outbox))) s values outbox r values outbox'
      → Called table
      (kit s values)
      (beside index (with_outbox (Unreadable p k t) (length values) (length outbox)))
      (kit r.state values)
      (hears r outbox')
  -- the same, lent a values area of under 16,384 bytes in the place of its own, which the caller keeps
  lent_less : {s : State} {values lent : List ℕ} {e : Call} {k : Kit} {a : Heard} → length lent < 16384 → Called table (kit s lent) e k a
      → Called table (kit s values) e (kit k.state values) a

-- what is heard of a list: it uses 0 bytes
abbrev pub notices : Listed → List ℕ → Notice
notices r outbox = record { heard = record { number = r.number; used = 0; written = take r.written outbox; steps = r.steps }; taken = r.taken }

-- A call of one of the five functions, or of the function for lists, which kept its promise.
pub data Acted (table : List ℕ) : Kit → Act → Kit → Notice → Type 0 where
  by_call : {k l : Kit} {e : Call} {a : Heard} → Called table k e l a → Acted table k (single e) l (record { heard = a; taken = 0 })
  by_readings : (s : State) (values outbox : List ℕ) (rows : List Row) (texts index : List ℕ) (r : Listed) (values' outbox' : List ℕ)
      → KeptList table (listing rows texts values outbox index) s values outbox r values' outbox'
      → Acted table (kit s values) (list (listing rows texts values outbox index)) (kit r.state values') (notices r outbox')
  -- the same, lent a values area of under 16,384 bytes in the place of its own, which the caller keeps
  list_lent_less : {s : State} {values lent : List ℕ} {l : Listing} {k : Kit} {a : Notice} → length lent < 16384 → Acted table (kit s lent) (list l) k a
      → Acted table (kit s values) (list l) (kit k.state values) a

-- each call is given the state as the last one left it, and the values area, unless it is lent one that is too small; calls that are lent another
-- one that is large enough are in no run
pub data Run (table : List ℕ) : Kit → List Act → Kit → List Notice → Type 0 where
  ended : (k : Kit) → Run table k [] k []
  acted : {k l m : Kit} {e : Act} {h : List Act} {a : Notice} {as' : List Notice}
      → Acted table k e l a → Run table l h m as' → Run table k (e ∷ h) m (a ∷ as')
