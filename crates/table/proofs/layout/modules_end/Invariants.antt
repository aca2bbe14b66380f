-- `table::layout::modules_end` meets its contract. Assumes nothing.
use Rattle.table.specs.Clauses.At.{modules_from}
use Rattle.ascii.specs.Clauses.Reader.{rest}
use lib.ListN.{length}
use mathlib.Core.Path.{◌≡◌}
use Prim.Native.Nat.{◌≤◌, ◌-◌}
use Rattle.table.proofs.layout.modules_end.Given as goal

abbrev pub invariant-loop-i : goal.invariant-loop-i
invariant-loop-i l = (l.i ≤ length l.s) × (rest (modules_from l.s l.at) ≡ rest (modules_from l.s l.i))

abbrev pub decreases-loop-i : goal.decreases-loop-i
decreases-loop-i l = length l.s - l.i
