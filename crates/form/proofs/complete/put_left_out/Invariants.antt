-- `form::complete::put_left_out` meets its contract. Assumes nothing.
use Prim.Native.Nat.{◌+◌, ◌-◌, ◌≤◌}
use lib.ListN.{length, drop}
use Rattle.json_text.specs.Json.{value, object_end}
use Rattle.form.proofs.Merged.{KeptAt}
use Rattle.form.proofs.complete.put_left_out.Given as goal

abbrev pub invariant-loop : goal.invariant-loop
invariant-loop l = (l.field ≤ length l.s) × (l.a ≤ 18446744073709551615) × KeptAt l.s l.i (object_end (value 7) (drop (l.p + 1) l.v)) (object_end (value 7) (drop 1 l.shown)) l.field (l.count - l.counter) l.start l.initial.out l.at l.out l.a
