-- `form::write::put_fields` meets its contract. Assumes nothing.
use Prim.Native.Nat.{◌+◌, ◌-◌, ◌≤◌}
use lib.Dec.{eqb}
use lib.ListN.{length, drop}
use Rattle.json_text.specs.Json.{value, object_end}
use Rattle.form.proofs.Listed.{TableAt}
use Rattle.form.proofs.write.put_fields.Given as goal

abbrev pub invariant-loop-n : goal.invariant-loop-n
invariant-loop-n l = (l.field ≤ length l.s) × TableAt l.s l.i l.levels (object_end (value l.depth) (drop (l.p + 1) l.v)) l.field (l.count - l.n) (eqb l.n 0) l.initial.out l.at l.out l.a
