-- `fit::object::is_optional` meets its contract. The invariant: what is asked of all fields is asked of those from `field` on. Assumes nothing.
use Rattle.ascii.specs.Bytes.{any, same}
use Prim.Native.Nat.{◌-◌, ◌≤◌}
use lib.ListN.{length}
use Rattle.fit.proofs.Objects.{FieldsAt}
use Rattle.fit.proofs.object.is_optional.Given as goal

abbrev pub invariant-loop : goal.invariant-loop
invariant-loop l = (l.field ≤ length l.s) × FieldsAt l.s l.at l.levels 11 (λ m. any (same l.name) m.0) l.field (l.count - l.counter)
