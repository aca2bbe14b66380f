-- `seek::walk::numbered` meets its contract. The loop's invariant: the walk has not passed number k. Assumes nothing.
use Prim.Native.Nat.{◌-◌}
use lib.ListN.{length}
use Rattle.seek.proofs.Walking.{Before}
use Rattle.seek.proofs.walk.numbered.Given as goal

abbrev pub invariant-loop-a : goal.invariant-loop-a
invariant-loop-a l = Before l.s l.k l.w

abbrev pub decreases-loop-a : goal.decreases-loop-a
decreases-loop-a l = length l.s - l.w.cursor.at
