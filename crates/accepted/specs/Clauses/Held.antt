-- What a line that is held and answered leaves. Assumes nothing.
use Rattle.std.specs.Prelude.{ℕ, ◌+◌, ◌<◌, Option, Some, None, true, cond, not, ◌||◌, List, [], ◌++◌, ◌≡◌, eqb, ltb, length, get_or}
use Rattle.ascii.specs.Bytes.{all}
use Rattle.table.specs.Table.{Table}
use Rattle.table.specs.Layout.{table_of}
use Rattle.message.specs.Line.{content, parts_of}
use Rattle.outbox.specs.Outbox.{Record}
use Rattle.plain.specs.Node.{Node, line_of, line_taken}
use Rattle.plain.specs.Calls.{before_feed}
use Rattle.plain.specs.Answer.{answer_parts, answer_sets, line_steps}
use Rattle.state.specs.declared.Clients.{Clients}
use Rattle.state.specs.declared.State.{State}
use Rattle.state.specs.View.{is_set, line_bytes}
use Rattle.outcome.specs.declared.Replied.{Replied}
use Rattle.promise.specs.Clauses.Leaves.{AnswersEnded}

-- where the first line feed stands, if there is one
abbrev pub FeedAt : List ℕ → Option ℕ → Type 0
FeedAt bs (Some n) = (n ≡ length (before_feed bs)) × (n < length bs)
FeedAt bs None = length bs ≡ length (before_feed bs)

-- no line feed
abbrev pub Unfed : List ℕ → Type 0
Unfed bs = all (λ (b : ℕ). not (eqb b 10)) bs ≡ true

-- the line of client c, once these bytes came in; one that is overlong, or gets so, says what an empty one does
unfoldable pub line_with : Clients → ℕ → List ℕ → List ℕ
line_with s c bs = cond (is_set s.overlong c || ltb 1024 (get_or s.length c 0 + length bs)) [] (line_bytes s c ++ bs)

-- what the plain node n answers to the line that client c has held, before what is sent is counted
abbrev pub held_answer : Table → Node → ℕ → ℕ → Node × List Record
held_answer w n c t = answer_parts w (line_taken n c) c t (parts_of (content (line_of (n.clients c))))

-- handed the state s, the values area and the outbox, and lent an index, the line that client c has held in the node n is answered at the time t: with
-- the next node and the records x, and with the steps of the line's search
pub record AnswersHeld (table index : List ℕ) (s : State) (values before : List ℕ) (n : Node) (c t : ℕ) (r : Replied)
    (stored after : List ℕ) (x : Node × List Record) : Type 0 where
  pub answers : AnswersEnded table s values before c r.answered stored after x (answer_sets (table_of table) n c t)
  pub steps : r.steps ≡ line_steps (table_of table) index n c
