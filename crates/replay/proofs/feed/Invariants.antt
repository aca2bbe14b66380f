-- `replay::feed` meets its contract. The loop's invariant: steps from here on over what is left are steps over all. Assumes nothing.
use Prim.Native.Nat.{◌-◌}
use lib.ListN.{length}
use Rattle.replay.specs.Clauses.View.{to_do}
use Rattle.replay.proofs.Feeding.{Feeding}
use Rattle.replay.proofs.feed.Given as goal

abbrev pub invariant-loop-values : goal.invariant-loop-values
invariant-loop-values l = Feeding l.table (length l.initial.outbox) l.initial.next l.initial.values l.bytes l.at l.next l.values l.outbox

abbrev pub decreases-loop-values : goal.decreases-loop-values
decreases-loop-values l = to_do l.next (length l.bytes - l.at)
