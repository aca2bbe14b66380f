-- `ascii::write::put` meets its contract. The loop's invariant: the first i bytes of src stand in their place, and all else is as it was.
-- Assumes nothing.
use Prim.Native.Nat.{◌≤◌}
use mathlib.Core.Path.{◌≡◌}
use lib.ListN.{length}
use lib.Seq.{paste}
use Rattle.ascii.proofs.write.put.Given as goal

abbrev pub invariant-loop-i : goal.invariant-loop-i
invariant-loop-i l = (l.out ≡ paste l.initial.out l.at l.src l.i) × ((l.i ≤ length l.src) × (length l.out ≡ length l.initial.out))
