-- `search::cursor::next_command` meets its contract. Assumes nothing.
use Prim.Native.Nat.{◌-◌}
use lib.ListN.{length}
use Rattle.table.specs.Search.{commands_of}
use Rattle.search.proofs.Walks.{Walked}
use Rattle.search.proofs.cursor.next_command.Given as goal

abbrev pub invariant-loop-q : goal.invariant-loop-q
invariant-loop-q l = Walked commands_of l.s l.initial.i l.i

abbrev pub decreases-loop-q : goal.decreases-loop-q
decreases-loop-q l = length l.s - l.i.at
