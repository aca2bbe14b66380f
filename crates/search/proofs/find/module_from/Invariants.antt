-- `search::find::module_from` meets its contract. Assumes nothing.
use Rattle.search.proofs.Searches.{Lefts}
use lib.ListN.{length}
use Prim.Native.Nat.{◌≤◌, ◌-◌}
use Rattle.search.proofs.find.module_from.Given as goal

abbrev pub invariant-loop-at : goal.invariant-loop-at
invariant-loop-at l = ((l.i ≤ length l.s) × (l.n ≤ l.i)) × Lefts l.s l.at l.name l.n l.i

abbrev pub decreases-loop-at : goal.decreases-loop-at
decreases-loop-at l = length l.s - l.i
