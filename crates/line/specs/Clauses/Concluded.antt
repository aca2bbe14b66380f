-- What the code does with the outcome of a request: an error is answered now; whatever else has been answered, and changes the state. Assumes
-- nothing.
use Rattle.std.specs.Prelude.{ℕ, ◌≤◌, ◌<◌, ◌≡◌, List, length, Option, Some, None}
use Rattle.ascii.specs.Clauses.Writer.{Puts}
use Rattle.message.specs.Error.{Denial, class, fault}
use Rattle.message.specs.Reply.{error}
use Rattle.message.specs.Clauses.Said.{class_of, fault_as}
use Rattle.outbox.specs.Outbox.{final, encode}
use Rattle.state.specs.declared.Bare.{Bare}
use Rattle.state.specs.View.{with_length, settings_with}
use Rattle.state.specs.Clauses.Bare.{brief_active}
use Rattle.outcome.specs.Clauses.Outcome.{status_settings}
use Rattle.outcome.specs.declared.Outcome.{Outcome}
use Rattle.outcome.specs.declared.Outcome.TheVariants.{Denied, Unreadable, Sent, Active, Stored}
use Rattle.outcome.specs.declared.Answered.{Answered}

-- an outbox that has room for an error line, and an action and a specifier of a line
pub record Deniable (out action specifier : List ℕ) : Type 0 where
  pub room : 32768 ≤ length out
  pub action_short : length action ≤ 1024
  pub specifier_short : length specifier ≤ 1024

-- the number of a status is that of a parameter that a table may have
abbrev pub StatusNumbered : Option (ℕ × ℕ) → Type 0
StatusNumbered None = Unit {0}
StatusNumbered (Some (k, h)) = k < 64

-- what an outcome asks for: an error, that it can be answered; a stored value, numbers of parameters and a length that it may have
abbrev pub Concludable : List ℕ → List ℕ → List ℕ → Outcome → Type 0
Concludable out action specifier (Denied e) = Deniable out action specifier
Concludable out action specifier (Unreadable f since) = Deniable out action specifier
Concludable out action specifier (Sent written) = Unit
Concludable out action specifier (Active mask written) = Unit
Concludable out action specifier (Stored first k size written) = StatusNumbered first × ((k < 64) × (size ≤ 256))

-- Handed the state s, for client c at the time t: the outbox held `before` and holds `after`, and the answer is r.
module _ (before after : List ℕ) (s : Bare) (c t : ℕ) (r : Answered) where
  -- "Errors: `error_ACTION SPECIFIER [..]`, action and specifier as sent."; the state stays
  pub record Denies (action specifier : List ℕ) (e : Denial) : Type 0 where
    pub state : r.state ≡ s
    pub puts : Puts before 0 (encode (final c (error action specifier e))) after r.written

  -- so many bytes were written before, and the outbox stays
  pub record Keeps (written : ℕ) : Type 0 where
    pub size : r.written ≡ written
    pub quiet : after ≡ before

  -- the state stays
  pub record Passes (written : ℕ) : Type 0 where
    pub keeps : Keeps written
    pub state : r.state ≡ s

  -- the client's active modules are those of a mask
  pub record Switches (mask written : ℕ) : Type 0 where
    pub keeps : Keeps written
    pub settings : r.state.settings ≡ s.settings
    pub clients : r.state.clients ≡ brief_active s.clients c mask
    pub counts : r.state.counts ≡ s.counts

  -- after a status parameter k has a stored value of so many bytes, from this time on
  pub record Sets (first : Option (ℕ × ℕ)) (k size written : ℕ) : Type 0 where
    pub keeps : Keeps written
    pub clients : r.state.clients ≡ s.clients
    pub settings : r.state.settings ≡ with_length (settings_with s.settings (status_settings first t)) k size t
    pub counts : r.state.counts ≡ s.counts

  abbrev pub Concludes : List ℕ → List ℕ → Outcome → Type 0
  Concludes action specifier (Denied e) = Denies action specifier (class (class_of e))
  Concludes action specifier (Unreadable f since) = Denies action specifier (fault (fault_as f) since)
  Concludes action specifier (Sent written) = Passes written
  Concludes action specifier (Active mask written) = Switches mask written
  Concludes action specifier (Stored first k size written) = Sets first k size written
