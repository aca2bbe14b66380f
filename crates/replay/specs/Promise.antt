-- What a step of a replay promises, by the promise of the one call that it makes. Assumes nothing.
use Rattle.std.specs.Prelude.{ℕ, ◌-◌, ◌≤◌, ◌<◌, List, [], ◌∷◌, ◌≢◌, ◌≡◌, length, get_or, take, Option, Some, None}
use Rattle.ascii.specs.Bytes.{head}
use Rattle.plain.specs.Calls.{Open, Close, with_area, with_outbox}
use Rattle.plain.specs.Calls as Calls
use Rattle.figures.specs.Clauses.Tally.{no_settings, tally_at}
use Rattle.state.specs.declared.State.{State}
use Rattle.promise.specs.declared.Done.{Done}
use Rattle.promise.specs.Promise.{Kept, Begins}
use Rattle.trace.specs.declared.Kind.TheVariants.{Opening, Closing, Piece, Reading, Unreadable}
use Rattle.trace.specs.Trace.{Entry}
use Rattle.trace.specs.Reader.{Progress, unread, take_bytes}
use Rattle.trace.specs.Clauses.Takes.{progress_of}
use Rattle.replay.specs.declared.Replay.{Replay}
use Rattle.replay.specs.declared.Stepped.{Stepped}
use Rattle.replay.specs.declared.Started.{Started}
use Rattle.replay.specs.Replay.{call_for, rest}
use Rattle.replay.specs.Clauses.Figured.{Figured}
use Rattle.replay.specs.Clauses.View.{pending_of, counted, to_do, Sound}

-- ## The single call

-- The call of a record on the state s, the values area and the outbox, which kept its promise: it answered d and left values' and outbox'. What it is
-- not lent stays.
pub data Single (table : List ℕ) (s : State) (values outbox : List ℕ) : Entry → Done → List ℕ → List ℕ → Type 0 where
  by_open : (c t : ℕ) (bs : List ℕ) (d : Done) → Kept table (with_area (Open c t) (length values)) s values [] d values []
      → Single table s values outbox (record { kind = Opening; number = c; time = t; offered = bs }) d values outbox
  by_close : (c t : ℕ) (bs : List ℕ) (d : Done) → Kept table (with_area (Close c t) (length values)) s values [] d values []
      → Single table s values outbox (record { kind = Closing; number = c; time = t; offered = bs }) d values outbox
  by_piece : (c t : ℕ) (bs : List ℕ) (d : Done) (values' outbox' : List ℕ)
      → Kept table (with_outbox (Calls.Piece c bs t) (length values) (length outbox)) s values outbox d values' outbox'
      → Single table s values outbox (record { kind = Piece; number = c; time = t; offered = bs }) d values' outbox'
  by_reading : (p t : ℕ) (bs : List ℕ) (d : Done) (values' outbox' : List ℕ)
      → Kept table (with_outbox (Calls.Reading p bs t) (length values) (length outbox)) s values outbox d values' outbox'
      → Single table s values outbox (record { kind = Reading; number = p; time = t; offered = bs }) d values' outbox'
  by_unreadable : (p t : ℕ) (bs : List ℕ) (d : Done) (outbox' : List ℕ)
      → Kept table (with_outbox (Calls.Unreadable p (head bs) t) (length values) (length outbox)) s values outbox d values outbox'
      → Single table s values outbox (record { kind = Unreadable; number = p; time = t; offered = bs }) d values outbox'

-- ## A step

-- what a step plays: what is left of a record, and then no byte of the trace is used; or the record that the bytes used end; or none, and then all bytes
-- are used
pub data Comes (r : Replay) (trace : List ℕ) (used : ℕ) (after : Progress) : Option Entry → Type 0 where
  again : (e : Entry) → pending_of r ≡ Some e → used ≡ 0 → after ≡ progress_of r.reader → Comes r trace used after (Some e)
  whole : (e : Entry) → pending_of r ≡ None → 1 ≤ used → used ≤ length trace → take_bytes (progress_of r.reader) (take used trace) ≡ (after, e ∷ [])
      → Comes r trace used after (Some e)
  begun : pending_of r ≡ None → used ≡ length trace → take_bytes (progress_of r.reader) trace ≡ (after, []) → Comes r trace used after None

-- after a call that answered d
pub record After (r : Replay) (e : Entry) (d : Done) (s : Stepped) : Type 0 where
  pub state : s.replay.state ≡ d.state
  pub writes : s.written ≡ d.written
  pub counts : s.replay.refused ≡ counted r.refused d.number
  pub left : pending_of s.replay ≡ rest e d.number d.used

-- where no record is whole nothing is called, and nothing but the reader alters
pub record Quiet (r : Replay) (s : Stepped) : Type 0 where
  pub state : s.replay.state ≡ r.state
  pub writes : s.written ≡ 0
  pub counts : s.replay.refused ≡ r.refused
  pub left : pending_of s.replay ≡ None
  pub figures : s.replay.figures ≡ r.figures

pub data Goes (table : List ℕ) (r : Replay) (values outbox trace : List ℕ) (s : Stepped) : List ℕ → List ℕ → Type 0 where
  waits : Comes r trace s.used (progress_of s.replay.reader) None → Quiet r s → Goes table r values outbox trace s values outbox
  calls : (e : Entry) → Comes r trace s.used (progress_of s.replay.reader) (Some e) → (d : Done) (values' outbox' : List ℕ)
      → Single table r.state values outbox e d values' outbox' → After r e d s
      → Figured table r.state values (call_for (length values) (length outbox) e) r.figures s.replay.figures
      → Goes table r values outbox trace s values' outbox'

pub record Steps (table : List ℕ) (r : Replay) (values outbox trace : List ℕ) (s : Stepped) (values' outbox' : List ℕ) : Type 0 where
  pub goes : Goes table r values outbox trace s values' outbox'
  pub sound : Sound s.replay
  pub used : s.used ≤ length trace
  -- a caller that goes on comes to an end
  pub moves : to_do r (length trace) ≢ 0 → to_do s.replay (length trace - s.used) < to_do r (length trace)

-- ## A start

-- the start kept its promise, by the answer d; nothing has been read
pub record Starts (table values : List ℕ) (time : ℕ) (r : Started) : Type 0 where
  pub done : Done
  pub begins : Begins table values time done
  pub number : r.number ≡ done.number
  pub state : r.replay.state ≡ done.state
  pub progress : progress_of r.replay.reader ≡ unread
  pub left : pending_of r.replay ≡ None
  pub full : length r.replay.refused ≡ 19
  pub counts : (k : ℕ) → get_or r.replay.refused k 0 ≡ 0
  pub figures : (k : ℕ) → tally_at r.replay.figures k ≡ no_settings
  pub sound : Sound r.replay
