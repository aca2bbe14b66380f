-- `describe::structure::emit_modules` meets its contract. Assumes nothing.
use Rattle.describe.proofs.Reported.{modules_to_come}
use Prim.Native.Nat.{◌≤◌, ◌-◌}
use mathlib.Core.Path.{◌≡◌}
use lib.ListN.{length}
use Rattle.table.specs.Clauses.At.{modules_from}
use Rattle.emit.specs.Clauses.Emitted.{told}
use Rattle.describe.specs.Clauses.Texts.{modules_text}
use Rattle.emit.proofs.Says.{Leads}
use Rattle.describe.proofs.structure.emit_modules.Given as goal

abbrev pub invariant-loop-e : goal.invariant-loop-e
invariant-loop-e l = (l.j ≤ length l.s) × (length l.out ≡ length l.initial.out) × (l.p ≤ 18446744073709551615) × Leads (told modules_text (modules_from l.s l.i)) l.initial.out l.at (modules_to_come l.s l.first l.j) l.out l.p

abbrev pub decreases-loop-e : goal.decreases-loop-e
decreases-loop-e l = length l.s - l.j
