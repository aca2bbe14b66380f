-- `table::judge::accessibles_are_few` meets its contract. Assumes nothing.
use Rattle.table.specs.Clauses.Judged.{passed, few}
use Rattle.table.specs.Clauses.At.{modules_from}
use lib.ListN.{length}
use mathlib.Core.Path.{◌≡◌}
use Prim.Native.Nat.{◌≤◌, ◌-◌}
use Rattle.table.proofs.judge.accessibles_are_few.Given as goal

abbrev pub invariant-loop-n : goal.invariant-loop-n
invariant-loop-n l = (l.i ≤ length l.s) × (passed (few l.most) (modules_from l.s l.at) ≡ passed (few l.left) (modules_from l.s l.i))

abbrev pub decreases-loop-n : goal.decreases-loop-n
decreases-loop-n l = length l.s - l.i
