-- `table::judge::accessibles_pass` meets its contract. Assumes nothing.
use Rattle.table.specs.Clauses.Judged.{passed, passes}
use Rattle.table.specs.Clauses.At.{accessibles_from}
use Rattle.ascii.specs.Bytes.{all}
use lib.ListN.{length}
use mathlib.Core.Path.{◌≡◌}
use Prim.Native.Nat.{◌≤◌, ◌-◌}
use Rattle.table.proofs.judge.accessibles_pass.Given as goal

abbrev pub invariant-loop-test : goal.invariant-loop-test
invariant-loop-test l = (l.i ≤ length l.s) × (passed (all (passes l.test)) (accessibles_from l.s l.at) ≡ passed (all (passes l.test)) (accessibles_from l.s l.i))

abbrev pub decreases-loop-test : goal.decreases-loop-test
decreases-loop-test l = length l.s - l.i
