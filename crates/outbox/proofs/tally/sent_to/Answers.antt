use native.Mathlib.Omega.{arith}
use Rattle.outbox.proofs.Tallied.{walk_on, walk_ends, error_low, update_low}
use Rattle.outbox.proofs.tally.sent_to.Goals as goal

pub overflow_add-errors : goal.overflow_add-errors
overflow_add-errors c = omega (arith, error_low _ _ _ _ c.error_at-errors.ensures)

pub overflow_add-updates : goal.overflow_add-updates
overflow_add-updates c = omega (arith, update_low _ _ _ _ c.update_at-updates.ensures)

pub loop-at-preserved : goal.loop-at-preserved
loop-at-preserved c = (omega (arith, error_low _ _ _ _ c.error_at-errors.ensures), (omega (arith, update_low _ _ _ _ c.update_at-updates.ensures), search walk_on))

pub returns : goal.returns
returns c = search walk_ends
