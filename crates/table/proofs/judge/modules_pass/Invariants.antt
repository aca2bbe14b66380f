-- `table::judge::modules_pass` meets its contract. Assumes nothing.
use Rattle.table.specs.Clauses.Judged.{passed, module_passes}
use Rattle.table.specs.Clauses.At.{modules_from}
use Rattle.ascii.specs.Bytes.{all}
use lib.ListN.{length}
use mathlib.Core.Path.{◌≡◌}
use Prim.Native.Nat.{◌≤◌, ◌-◌}
use Rattle.table.proofs.judge.modules_pass.Given as goal

abbrev pub invariant-loop-test : goal.invariant-loop-test
invariant-loop-test l = (l.i ≤ length l.s) × (passed (all (module_passes l.test)) (modules_from l.s l.at) ≡ passed (all (module_passes l.test)) (modules_from l.s l.i))

abbrev pub decreases-loop-test : goal.decreases-loop-test
decreases-loop-test l = length l.s - l.i
