-- The cycle of calls {array_fit, fields_fit_lem, fit, struct_fit, tuple_fit}. A level of a datainfo is three calls deep at most, so the measures are
-- three times the levels left, plus 0 for `fit`, 2 for `struct_fit`, 1 for the functions that walk over what a value holds. Assumes nothing.
use Prim.Native.Nat.{◌+◌, ◌-◌, ◌*◌, ◌≤◌}
use lib.ListN.{length}
use Rattle.fit.proofs.Walks.{Inside}
use Rattle.fit.proofs.Nested.{ArrayAt}
use Rattle.fit.proofs.Nested.{TupleAt}
use Rattle.fit.proofs.Structs.{ValuesAt}
use Rattle.fit.proofs.fit.+array_fit_fields_fit_fit_struct_fit_tuple_fit.Given as goal

abbrev pub invariant-array_fit-loop : goal.invariant-array_fit-loop
invariant-array_fit-loop l = Inside l.v l.item × ((l.n + (length l.v - l.counter) ≤ length l.v) × ArrayAt l.s l.at l.levels l.v l.p l.depth l.inner l.worst l.n l.item (length l.v - l.counter))

abbrev pub invariant-fields_fit-loop : goal.invariant-fields_fit-loop
invariant-fields_fit-loop l = (l.field ≤ length l.s) × ValuesAt l.s l.at l.levels l.k l.v l.p l.depth l.worst l.field (l.count - l.counter)

abbrev pub invariant-tuple_fit-loop : goal.invariant-tuple_fit-loop
invariant-tuple_fit-loop l = Inside l.v l.item × ((l.element ≤ length l.s) × TupleAt l.s l.at l.levels l.v l.p l.depth l.worst l.element (l.count - l.counter) l.item)

abbrev pub decreases-array_fit : goal.decreases-array_fit
decreases-array_fit l = 3 * l.levels + 1

abbrev pub decreases-fields_fit : goal.decreases-fields_fit
decreases-fields_fit l = 3 * l.levels + 1

abbrev pub decreases-fit : goal.decreases-fit
decreases-fit l = 3 * l.levels

abbrev pub decreases-struct_fit : goal.decreases-struct_fit
decreases-struct_fit l = 3 * l.levels + 2

abbrev pub decreases-tuple_fit : goal.decreases-tuple_fit
decreases-tuple_fit l = 3 * l.levels + 1
