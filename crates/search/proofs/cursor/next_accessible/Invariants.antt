-- `search::cursor::next_accessible` meets its contract. Assumes nothing.
use Prim.Native.Nat.{◌-◌}
use lib.ListN.{length}
use Rattle.search.specs.Clauses.Left.{accessibles_of}
use Rattle.search.proofs.Walks.{Walked}
use Rattle.search.proofs.cursor.next_accessible.Given as goal

abbrev pub invariant-loop-q : goal.invariant-loop-q
invariant-loop-q l = Walked accessibles_of l.s l.initial.i l.i

abbrev pub decreases-loop-q : goal.decreases-loop-q
decreases-loop-q l = length l.s - l.i.at
