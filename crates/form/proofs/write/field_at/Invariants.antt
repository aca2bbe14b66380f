-- `form::write::field_at` meets its contract. The invariant: what is asked of all fields is asked of those from `field` on. Assumes nothing.
use lib.ListN.{length}
use Prim.Native.Nat.{◌≤◌, ◌-◌}
use Rattle.form.proofs.Fields.{SoughtAt}
use Rattle.form.proofs.write.field_at.Given as goal

abbrev pub invariant-loop : goal.invariant-loop
invariant-loop l = (l.field ≤ length l.s) × SoughtAt l.s l.i l.levels l.k l.name l.field (l.count - l.counter)
