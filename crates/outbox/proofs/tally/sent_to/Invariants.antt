-- `outbox::tally::sent_to` meets its contract. Assumes nothing.
use Prim.Native.Nat.{◌-◌, ◌≤◌}
use Rattle.outbox.proofs.Tallied.{Walks}
use Rattle.outbox.proofs.tally.sent_to.Given as goal

abbrev pub invariant-loop-at : goal.invariant-loop-at
invariant-loop-at l = (l.errors ≤ l.at) × ((l.updates ≤ l.at) × Walks l.out l.written l.client l.at l.errors l.updates)

abbrev pub decreases-loop-at : goal.decreases-loop-at
decreases-loop-at l = l.written - l.at
