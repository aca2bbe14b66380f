-- `seek::look::look` meets its contract. The loop's invariant: n bytes were looked at in vain, and the next is at its place. Assumes nothing.
use Rattle.table.specs.Layout.{table_of}
use Rattle.index.specs.Accessibles.{accessibles, is_named}
use Rattle.index.proofs.Loops.{Looking}
use Rattle.seek.proofs.look.look.Given as goal

abbrev pub invariant-loop-n : goal.invariant-loop-n
invariant-loop-n l = Looking (is_named l.module l.name) (accessibles (table_of l.s)) l.index l.start l.n l.at
