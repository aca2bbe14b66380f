-- `fit::object::names_once` meets its contract. The invariant: what is asked of all fields is asked of those from `field` on. Assumes nothing.
use Rattle.json_text.specs.Json.{value, object_end}
use lib.ListN.{length, drop}
use Prim.Native.Nat.{◌-◌, ◌≤◌}
use Rattle.fit.proofs.Objects.{OnceAt}
use Rattle.fit.proofs.object.names_once.Given as goal

abbrev pub invariant-loop : goal.invariant-loop
invariant-loop l = (l.field ≤ length l.s) × OnceAt l.s l.at l.levels l.k (object_end (value l.depth) (drop l.p l.v)) l.field (l.count - l.counter)
