-- `search::find::parameter_by_number` meets its contract. Assumes nothing.
use Prim.Native.Nat.{◌-◌, ◌≤◌}
use lib.ListN.{length}
use Rattle.table.specs.Search.{parameters_of, parameters}
use Rattle.search.proofs.Finds.{Counted}
use Rattle.search.proofs.find.parameter_by_number.Given as goal

abbrev pub invariant-loop-q : goal.invariant-loop-q
invariant-loop-q l = (l.i ≤ l.k) × Counted parameters_of parameters l.s l.i l.c

abbrev pub decreases-loop-q : goal.decreases-loop-q
decreases-loop-q l = length l.s - l.c.at
