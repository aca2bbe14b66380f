-- The cycle of calls {array_end, bare_end, object_end, value_end}. A level of arrays and objects is three calls deep, so the measures are
-- three times the levels left, plus 0 for `bare_end`, 1 for `value_end`, 2 for `array_end` and `object_end`. Assumes nothing.
use Prim.Native.Nat.{◌+◌, ◌*◌, ◌-◌, ◌≤◌}
use mathlib.Core.Path.{◌≡◌}
use lib.ListN.{length, drop}
use Rattle.json_text.specs.Json.{items, array_end, members, object_end, value}
use Rattle.ascii.specs.Clauses.Reader.{rest}
use Rattle.json_text.proofs.read.+array_end_bare_end_object_end_value_end.Given as goal

-- what is to come from `i` on, of at most as many items or members as turns are left
abbrev pub invariant-array_end-loop : goal.invariant-array_end-loop
invariant-array_end-loop l = (l.i ≤ length l.s) × (rest (array_end (value l.depth) (drop l.at l.s)) ≡ rest (items (value l.depth) (length l.s - l.counter) (drop l.i l.s)))

abbrev pub invariant-object_end-loop : goal.invariant-object_end-loop
invariant-object_end-loop l = (l.i ≤ length l.s) × (rest (object_end (value l.depth) (drop l.at l.s)) ≡ rest (members (value l.depth) (length l.s - l.counter) (drop l.i l.s)))

abbrev pub decreases-array_end : goal.decreases-array_end
decreases-array_end l = 3 * l.depth + 2

abbrev pub decreases-bare_end : goal.decreases-bare_end
decreases-bare_end l = 3 * l.depth

abbrev pub decreases-object_end : goal.decreases-object_end
decreases-object_end l = 3 * l.depth + 2

abbrev pub decreases-value_end : goal.decreases-value_end
decreases-value_end l = 3 * l.depth + 1
