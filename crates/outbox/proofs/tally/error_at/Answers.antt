-- `outbox::tally::error_at` meets its contract. Assumes nothing.
use Rattle.outbox.proofs.Tallied.{no_reply, a_reply}
use Rattle.outbox.proofs.tally.error_at.Goals as goal
use Rattle.outbox.proofs.tally.error_at.Goals.{then-is_to, else-is_to}

pub returns : goal.returns
returns c = elim c.if-is_to.branch [
  | then-is_to w ↦ a_reply _ _ _ c.is_to.ensures w.if-is_to.true w.is_error.ensures (rw w.from-is at c.from.ensures)
  | else-is_to w ↦ no_reply _ _ _ c.is_to.ensures w.if-is_to.false (rw w.from-is at c.from.ensures)
]
