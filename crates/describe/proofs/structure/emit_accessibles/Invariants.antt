-- `describe::structure::emit_accessibles` meets its contract. Assumes nothing.
use Rattle.describe.proofs.Reported.{accessibles_to_come}
use Prim.Native.Nat.{◌≤◌, ◌-◌}
use mathlib.Core.Path.{◌≡◌}
use lib.ListN.{length}
use Rattle.table.specs.Clauses.At.{accessibles_from}
use Rattle.emit.specs.Clauses.Emitted.{told}
use Rattle.describe.specs.Clauses.Texts.{accessibles_text}
use Rattle.emit.proofs.Says.{Leads}
use Rattle.describe.proofs.structure.emit_accessibles.Given as goal

abbrev pub invariant-loop-e : goal.invariant-loop-e
invariant-loop-e l = (l.j ≤ length l.s) × (length l.out ≡ length l.initial.out) × (l.p ≤ 18446744073709551615) × Leads (told accessibles_text (accessibles_from l.s l.i)) l.initial.out l.at (accessibles_to_come l.s l.first l.j) l.out l.p

abbrev pub decreases-loop-e : goal.decreases-loop-e
decreases-loop-e l = length l.s - l.j
