-- `table::judge::is_new` meets its contract. Assumes nothing.
use Rattle.table.specs.Clauses.Judged.{passed, names_from, differs}
use Rattle.table.specs.Clauses.At.{bytes_of}
use Rattle.ascii.specs.Bytes.{all}
use lib.ListN.{length}
use mathlib.Core.Path.{◌≡◌}
use Prim.Native.Nat.{◌≤◌, ◌-◌}
use Rattle.table.proofs.judge.is_new.Given as goal

abbrev pub invariant-loop-kind : goal.invariant-loop-kind
invariant-loop-kind l = (l.i ≤ length l.s) × (passed (all (differs (bytes_of l.s l.name))) (names_from l.kind l.s l.at) ≡ passed (all (differs (bytes_of l.s l.name))) (names_from l.kind l.s l.i))

abbrev pub decreases-loop-kind : goal.decreases-loop-kind
decreases-loop-kind l = length l.s - l.i
