-- What the inner functions of a step promise. Assumes nothing.
use Rattle.std.specs.Prelude.{ℕ, ◌+◌, ◌-◌, ◌≤◌, ◌<◌, true, cond, ◌&&◌, List, ◌≡◌, eqb, length}
use Rattle.figures.specs.declared.Figures.{Figures}
use Rattle.figures.specs.Clauses.Tally.{Bounded}
use Rattle.state.specs.declared.State.{State}
use Rattle.promise.specs.declared.Done.{Done}
use Rattle.trace.specs.declared.Head.{Head}
use Rattle.replay.specs.declared.Replay.{Replay}
use Rattle.replay.specs.Replay.{call_for, is_piece}
use Rattle.replay.specs.Clauses.Figured.{Figured}
use Rattle.replay.specs.Clauses.View.{entry_of, offered_in}
use Rattle.replay.specs.Promise.{Single, After}

-- the single call of a record, with the bounds that its answer keeps
pub record Calls (table : List ℕ) (s : State) (values outbox : List ℕ) (h : Head) (bs : List ℕ) (d : Done) (values' outbox' : List ℕ) : Type 0 where
  pub single : Single table s values outbox (entry_of h bs) d values' outbox'
  pub low : d.number < 19
  pub within : d.used ≤ length bs
  -- an accepted piece uses a byte, if there is one
  pub some : is_piece h.kind ≡ true → d.number ≡ 0 → 0 < length bs → 1 ≤ d.used

-- the single call of a record of this head was made, and left these values and this outbox
pub record Made (table : List ℕ) (h : Head) (values outbox : List ℕ) (d : Done) : Type 0 where
  pub state : State
  pub lent : List ℕ
  pub room : List ℕ
  pub offered : List ℕ
  pub single : Single table state lent room (entry_of h offered) d values outbox

-- whatever it was made on, the figures are those after it
pub record Counts (table : List ℕ) (h : Head) (values outbox : List ℕ) (d : Done) (f f' : Figures) : Type 0 where
  pub is : (s : State) (lent room bs : List ℕ) → Single table s lent room (entry_of h bs) d values outbox
      → Figured table s lent (call_for (length lent) (length room) (entry_of h bs)) f f'
  pub bounded : Bounded f'

-- a head with another count of bytes
abbrev pub sized : Head → ℕ → Head
sized h n = record { kind = h.kind; number = h.number; time = h.time; size = n }

unfoldable pub left_after : Head → ℕ → ℕ → Head
left_after h number used = sized h (cond (is_piece h.kind && eqb number 0) (h.size - used) 0)

-- the call of what is left, which wrote so much of the outbox, and the replay after it
pub record Offers (table : List ℕ) (r : Replay) (values outbox : List ℕ) (written : ℕ) (r' : Replay) (values' outbox' : List ℕ) : Type 0 where
  pub done : Done
  pub single : Single table r.state values outbox (entry_of r.left (offered_in r)) done values' outbox'
  pub after : (used : ℕ) → After r (entry_of r.left (offered_in r)) done (record { used = used; written = written; replay = r' })
  pub figured : Figured table r.state values (call_for (length values) (length outbox) (entry_of r.left (offered_in r))) r.figures r'.figures
  pub bounded : Bounded r'.figures
  pub reader : r'.reader ≡ r.reader
  pub inside : r'.at + r'.left.size ≤ 4109
  pub less : 0 < r.left.size → r'.left.size < r.left.size
  pub least : r.left.size ≡ 0 → r'.left.size ≡ 0
