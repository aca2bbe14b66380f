-- What a line that is answered leaves. Assumes nothing.
use Rattle.std.specs.Prelude.{ℕ, List, ◌≡◌}
use Rattle.table.specs.Layout.{table_of}
use Rattle.message.specs.Line.{whole, content, parts_of}
use Rattle.message.specs.Request.{request}
use Rattle.plain.specs.Answer.{answer_parts, parts_set, request_steps}
use Rattle.state.specs.declared.Bare.{Bare}
use Rattle.state.specs.View.{view}
use Rattle.state.specs.Clauses.Bare.{unlined}
use Rattle.outcome.specs.Clauses.Outcome.{Answers}
use Rattle.outcome.specs.declared.Answered.{Answered}
use Rattle.outcome.specs.declared.Replied.{Replied}

-- on the table's bytes, handed the state s without its lines, the values area and the outbox, client c's line is answered at the time t as the
-- plain node has it
abbrev pub AnswersLine : List ℕ → Bare → List ℕ → List ℕ → ℕ → ℕ → List ℕ → Answered → List ℕ → List ℕ → Type 0
AnswersLine table s values before c t line r stored after =
    Answers table s values before r stored after
    (answer_parts (table_of table) (view table (unlined s) values) c t (parts_of (content (whole line))))
    (parts_set (table_of table) (view table (unlined s) values) c t (parts_of (content (whole line))))

-- the same, lent an index: with the steps of the line's search
pub record RepliesLine (table : List ℕ) (s : Bare) (values before : List ℕ) (c t : ℕ) (index line : List ℕ) (r : Replied)
    (stored after : List ℕ) : Type 0 where
  pub answers : AnswersLine table s values before c t line r.answered stored after
  pub steps : r.steps ≡ request_steps (table_of table) index (request (parts_of (content (whole line))))
