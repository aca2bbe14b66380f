-- A replay: a fresh node is fed with the records of a trace, by single calls. Assumes nothing.
use Rattle.std.specs.Prelude.{ℕ, zero, suc, Bool, true, false, cond, ◌&&◌, List, [], ◌∷◌, ◌++◌, eqb, ltb, length, drop, Option, Some, None}
use Rattle.ascii.specs.Bytes.{head, count}
use Rattle.plain.specs.Node.{Node}
use Rattle.plain.specs.Calls.{Open, Close, Call, with_area, with_outbox, Answer}
use Rattle.plain.specs.Calls as Calls
use Rattle.plain.specs.History.{step}
use Rattle.trace.specs.declared.Kind.{Kind}
use Rattle.trace.specs.declared.Kind.TheVariants.{Opening, Closing, Piece, Reading, Unreadable}
use Rattle.trace.specs.Trace.{Entry}
use Rattle.trace.specs.Reader.{capped}

-- ## One record, as single calls

-- the call of a record, lent a values area and an outbox of these lengths; an open and a close are lent no outbox. "(for `EF` its class)": a byte [R-1]
unfoldable pub call_of : ℕ → ℕ → Kind → ℕ → ℕ → List ℕ → Call
call_of area outbox Opening c t bs = with_area (Open c t) area
call_of area outbox Closing c t bs = with_area (Close c t) area
call_of area outbox Piece c t bs = with_outbox (Calls.Piece c bs t) area outbox
call_of area outbox Reading p t bs = with_outbox (Calls.Reading p bs t) area outbox
call_of area outbox Unreadable p t bs = with_outbox (Calls.Unreadable p (head bs) t) area outbox

abbrev pub call_for : ℕ → ℕ → Entry → Call
call_for area outbox e = call_of area outbox e.kind e.number e.time e.offered

unfoldable pub is_piece : Kind → Bool
is_piece Opening = false
is_piece Closing = false
is_piece Piece = true
is_piece Reading = false
is_piece Unreadable = false

abbrev pub offering : Entry → List ℕ → Entry
offering e bs = record { kind = e.kind; number = e.number; time = e.time; offered = bs }

-- what is to be offered again after a call that answered this number and used so many bytes: "offers unused bytes again until a piece is used up (an
-- empty one is offered once)"; "a refused piece is dropped" [R-5, R-6]
unfoldable pub rest : Entry → ℕ → ℕ → Option Entry
rest e number used =
    cond (is_piece e.kind && eqb number 0 && ltb used (length e.offered)) (Some (offering e (drop used e.offered))) None

-- the calls that were made, their answers, and the node that they leave
pub record Played : Type 0 where
  pub calls : List Call
  pub answers : List Answer
  pub node : Node

abbrev pub nothing : Node → Played
nothing n = record { calls = []; answers = []; node = n }

unfoldable pub first : Call → Answer → Played → Played
first c a p = record { calls = c ∷ p.calls; answers = a ∷ p.answers; node = p.node }

unfoldable pub both : Played → (Node → Played) → Played
both p f =
    let q = f p.node in
    record { calls = p.calls ++ q.calls; answers = p.answers ++ q.answers; node = q.node }

-- what is played if there is something to play
unfoldable pub if_some : Node → Option Entry → (Entry → Played) → Played
if_some n None f = nothing n
if_some n (Some e) f = f e

module _ (table : List ℕ) (area outbox : ℕ) where
  -- what is left to be played, if anything, by k calls at most
  unfoldable pub play_on : ℕ → Node → Option Entry → Played
  play_on zero n o = nothing n
  play_on (suc k) n o = if_some n o λ e.
      let c = call_for area outbox e in
      let s = step table n c in
      first c s.1 (play_on k s.0 (rest e s.1.number s.1.used))

  -- a record: each call but the last uses a byte at least, so these are enough [R-5, R-6]
  unfoldable pub play : Node → Entry → Played
  play n e = play_on (suc (length e.offered)) n (Some e)

  -- records, one after another [R-5]
  unfoldable pub play_all : Node → List Entry → Played
  play_all n [] = nothing n
  play_all n (e ∷ es) = both (play n e) (λ m. play_all m es)

-- ## Refused events

-- how many answers had the number k, which is not 0: of the calls of one event the last alone may be refused [R-6, R-8]
unfoldable pub refusals : List Answer → ℕ → ℕ
refusals l k = capped (count (λ a. eqb a.number k) l)
