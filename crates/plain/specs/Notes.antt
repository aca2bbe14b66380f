-- "For a table accepted before, every record but the describing reply stays as it was" (M-109). A node's answer to a line is all that ever has the
-- structure report. Only theorems speak of the node as it was. Assumes nothing.
use Rattle.std.specs.Prelude.{ℕ, List, [], ◌∷◌, ◌≡◌}
use Rattle.table.specs.Table.{Table}
use Rattle.report.specs.Report.{report}
use Rattle.report.specs.Notes.{noted_report}
use Rattle.message.specs.Line.{Parts}
use Rattle.message.specs.Request.{Request, identify, describe, ping, activate, deactivate, read, change, execute, count, malformed, request, check}
use Rattle.message.specs.Reply.{describing}
use Rattle.outbox.specs.Outbox.{Record, final}
use Rattle.plain.specs.Node.{Node}
use Rattle.plain.specs.Answer.{Outcome, carried, outcome, conclude, answer_parts, settings_of, parts_set}

-- On the table w, at the node n, by client c, at the time `now`.
module _ (w : Table) (n : Node) (c now : ℕ) where
  -- what a request came to [T-35]
  unfoldable pub formerly : Request → Outcome
  formerly identify = outcome w n c now identify
  formerly describe = carried n [] [] (describing (noted_report w))
  formerly (ping token) = outcome w n c now (ping token)
  formerly (activate m) = outcome w n c now (activate m)
  formerly (deactivate m) = outcome w n c now (deactivate m)
  formerly (read m a) = outcome w n c now (read m a)
  formerly (change m a v) = outcome w n c now (change m a v)
  formerly (execute m a v) = outcome w n c now (execute m a v)
  formerly (check m a v) = outcome w n c now (check m a v)
  formerly count = outcome w n c now count
  formerly malformed = outcome w n c now malformed

  -- the next node and the records of a line, and what it set [T-35]
  unfoldable pub former_parts : Parts → Node × List Record
  former_parts p = conclude w n c now p (formerly (request p))

  -- now and before, of a line with these parts
  pub record AsBefore (p : Parts) : Type 0 where
    -- what is set
    pub sets : parts_set w n c now p ≡ settings_of (formerly (request p))
    -- every line but `describe`: the next node and all records
    pub others : (request p ≡ describe → ⊥) → answer_parts w n c now p ≡ former_parts p
    -- `describe`: its reply alone, which tells the report
    pub described : request p ≡ describe → answer_parts w n c now p ≡ (n, final c (describing (report w)) ∷ [])
    pub was_described : request p ≡ describe → former_parts p ≡ (n, final c (describing (noted_report w)) ∷ [])

abbrev pub LinesAreAsBefore : Type 0
LinesAreAsBefore = (w : Table) (n : Node) (c now : ℕ) (p : Parts) → AsBefore w n c now p
