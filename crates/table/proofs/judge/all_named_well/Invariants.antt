-- `table::judge::all_named_well` meets its contract. Assumes nothing.
use Rattle.table.specs.Clauses.Judged.{passed, names_from}
use Rattle.datainfo.specs.Rules.{good_names}
use lib.ListN.{length}
use mathlib.Core.Path.{◌≡◌}
use Prim.Native.Nat.{◌≤◌, ◌-◌}
use Rattle.table.proofs.judge.all_named_well.Given as goal

abbrev pub invariant-loop-kind : goal.invariant-loop-kind
invariant-loop-kind l = (l.i ≤ length l.s) × (passed good_names (names_from l.kind l.s l.at) ≡ passed good_names (names_from l.kind l.s l.i))

abbrev pub decreases-loop-kind : goal.decreases-loop-kind
decreases-loop-kind l = length l.s - l.i
