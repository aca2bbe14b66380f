-- `search::find::find_command` meets its contract. Assumes nothing.
use Prim.Native.Nat.{◌-◌}
use lib.ListN.{length}
use Rattle.search.proofs.Finds.{SoughtCommand}
use Rattle.search.proofs.find.find_command.Given as goal

abbrev pub invariant-loop-q : goal.invariant-loop-q
invariant-loop-q l = SoughtCommand l.s l.module l.name l.k l.c

abbrev pub decreases-loop-q : goal.decreases-loop-q
decreases-loop-q l = length l.s - l.c.at
