-- `infos::emit_names` meets its contract. Assumes nothing.
use Prim.Native.Nat.{◌-◌, ◌≤◌}
use mathlib.Core.Path.{◌≡◌}
use lib.ListN.{length}
use Rattle.infos.proofs.Own.{NamesAt}
use Rattle.infos.proofs.emit_names.Given as goal

abbrev pub invariant-loop : goal.invariant-loop
invariant-loop l = (l.field ≤ length l.s) × (length l.out ≡ length l.initial.out) × (l.p ≤ 18446744073709551615) × NamesAt l.s l.i l.field (l.count - l.counter) l.first l.initial.out l.at l.out l.p
