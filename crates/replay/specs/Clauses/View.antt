-- What a replay's struct stands for. Assumes nothing.
use Rattle.std.specs.Prelude.{ℕ, ◌+◌, ◌*◌, ◌≤◌, cond, List, eqb, get_or, set, take, drop, Option, Some, None}
use Rattle.figures.specs.Clauses.Tally.{Bounded}
use Rattle.trace.specs.declared.Head.{Head}
use Rattle.trace.specs.Trace.{Entry}
use Rattle.trace.specs.Reader.{capped}
use Rattle.trace.specs.Clauses.Takes.{Begun}
use Rattle.replay.specs.declared.Replay.{Replay}

abbrev pub entry_of : Head → List ℕ → Entry
entry_of h bs = record { kind = h.kind; number = h.number; time = h.time; offered = bs }

-- what is offered next of the record that is held
abbrev pub offered_in : Replay → List ℕ
offered_in r = take r.left.size (drop r.at r.reader.held)

-- what is left to be offered
unfoldable pub pending_of : Replay → Option Entry
pending_of r = cond (eqb r.left.size 0) None (Some (entry_of r.left (offered_in r)))

-- counts after a call that answered this number; 0 is no refusal
unfoldable pub counted : List ℕ → ℕ → List ℕ
counted refused number = cond (eqb number 0) refused (set refused number (capped (get_or refused number 0 + 1)))

-- what is to be done with so many bytes of a trace; a record has 4,109 at most
unfoldable pub to_do : Replay → ℕ → ℕ
to_do r bytes = 4110 * bytes + r.left.size

-- what a step asks for: a record that has begun is held, and what is left to be offered lies within
pub record Sound (r : Replay) : Type 0 where
  pub begun : Begun r.reader
  pub inside : r.at + r.left.size ≤ 4109
  pub bounded : Bounded r.figures
