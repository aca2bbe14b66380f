-- `table::layout::accessibles_end` meets its contract. Assumes nothing.
use Rattle.table.specs.Clauses.At.{accessibles_from}
use Rattle.ascii.specs.Clauses.Reader.{rest}
use lib.ListN.{length}
use mathlib.Core.Path.{◌≡◌}
use Prim.Native.Nat.{◌≤◌, ◌-◌}
use Rattle.table.proofs.layout.accessibles_end.Given as goal

abbrev pub invariant-loop-i : goal.invariant-loop-i
invariant-loop-i l = (l.i ≤ length l.s) × (rest (accessibles_from l.s l.at) ≡ rest (accessibles_from l.s l.i))

abbrev pub decreases-loop-i : goal.decreases-loop-i
decreases-loop-i l = length l.s - l.i
