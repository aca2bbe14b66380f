-- `seek::look::walk` meets its contract. The loop's invariant: the walk has passed accessibles in vain. Assumes nothing.
use Prim.Native.Nat.{◌-◌}
use lib.ListN.{length}
use Rattle.seek.proofs.Seeking.{InVain}
use Rattle.seek.proofs.look.walk.Given as goal

abbrev pub invariant-loop-a : goal.invariant-loop-a
invariant-loop-a l = InVain l.s l.module l.name l.w

abbrev pub decreases-loop-a : goal.decreases-loop-a
decreases-loop-a l = length l.s - l.w.cursor.at
