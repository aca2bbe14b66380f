-- `table::judge::count` meets its contract. Assumes nothing.
use Rattle.table.specs.Clauses.Judged.{names_from, how_many}
use lib.ListN.{length}
use mathlib.Core.Path.{◌≡◌}
use Prim.Native.Nat.{◌≤◌, ◌-◌}
use Rattle.table.proofs.judge.count.Given as goal

abbrev pub invariant-loop-kind : goal.invariant-loop-kind
invariant-loop-kind l = ((l.i ≤ length l.s) × (l.n ≤ l.i)) × (how_many 0 (names_from l.kind l.s l.at) ≡ how_many l.n (names_from l.kind l.s l.i))

abbrev pub decreases-loop-kind : goal.decreases-loop-kind
decreases-loop-kind l = length l.s - l.i
