-- `trace::take` meets its contract. The loop's invariant: the bytes used so far are read as a record that goes on, which is held.
-- Assumes nothing.
use Prim.Native.Nat.{◌-◌}
use lib.ListN.{length}
use Rattle.trace.proofs.Taking.{Going, begin}
use Rattle.trace.proofs.take.Given as goal

abbrev pub invariant-loop-used : goal.invariant-loop-used
invariant-loop-used l = Going (begin l.initial.held l.initial.size l.offset) l.bytes l.offset l.held l.size l.used

abbrev pub decreases-loop-used : goal.decreases-loop-used
decreases-loop-used l = length l.bytes - l.used
