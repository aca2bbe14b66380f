-- `seek::fill::fill_all` meets its contract. The loop's invariant: the accessibles that the walk has passed are in the index. Assumes nothing.
use Prim.Native.Nat.{◌-◌}
use lib.ListN.{length}
use Rattle.seek.proofs.Filling.{Filled}
use Rattle.seek.proofs.fill.fill_all.Given as goal

abbrev pub invariant-loop-a : goal.invariant-loop-a
invariant-loop-a l = Filled l.s l.w l.index

abbrev pub decreases-loop-a : goal.decreases-loop-a
decreases-loop-a l = length l.s - l.w.cursor.at
