-- The cycle of calls that writes values, items and members. A level of a datainfo is four calls deep at most, so the measures are four times the levels
-- left, plus 0 for `put_value`, 1 for one item or member, 2 for the loops over them, 3 for the types that hold values. Assumes nothing.
use Prim.Native.Nat.{◌+◌, ◌-◌, ◌*◌, ◌≤◌}
use lib.Dec.{eqb}
use lib.ListN.{length, drop}
use Rattle.datainfo.specs.Layout.{datainfo_in}
use Rattle.datainfo.specs.Clauses.Members.{members_at}
use Rattle.fit.proofs.Walks.{Inside}
use Rattle.form.proofs.Rows.{RowAt}
use Rattle.form.proofs.Rows.{ElementsAt}
use Rattle.form.proofs.Members.{ObjectAt}
use Rattle.form.proofs.write.+put_array_put_elements_put_item_put_items_put_member_put_members_put_struct_put_tuple_put_value.Given as goal

abbrev pub invariant-put_elements-loop-n : goal.invariant-put_elements-loop-n
invariant-put_elements-loop-n l = Inside l.v l.item × (l.element ≤ length l.s) × ElementsAt l.s l.i l.levels l.depth l.v l.p l.element (l.count - l.n) l.item (eqb l.n 0) l.initial.out l.at l.out l.a

abbrev pub invariant-put_items-loop : goal.invariant-put_items-loop
invariant-put_items-loop l = Inside l.v l.item × RowAt (datainfo_in l.levels (drop l.i l.s)) l.depth l.v l.p l.item (length l.v - l.counter) l.start l.initial.out l.at l.out l.a

abbrev pub invariant-put_members-loop : goal.invariant-put_members-loop
invariant-put_members-loop l = Inside l.v l.member × ObjectAt (members_at (datainfo_in l.levels) l.k (drop l.i l.s)) l.depth l.v l.p l.member (length l.v - l.counter) l.start l.initial.out l.at l.out l.a

abbrev pub decreases-put_array : goal.decreases-put_array
decreases-put_array l = 4 * l.levels + 3

abbrev pub decreases-put_elements : goal.decreases-put_elements
decreases-put_elements l = 4 * l.levels + 2

abbrev pub decreases-put_item : goal.decreases-put_item
decreases-put_item l = 4 * l.levels + 1

abbrev pub decreases-put_items : goal.decreases-put_items
decreases-put_items l = 4 * l.levels + 2

abbrev pub decreases-put_member : goal.decreases-put_member
decreases-put_member l = 4 * l.levels + 1

abbrev pub decreases-put_members : goal.decreases-put_members
decreases-put_members l = 4 * l.levels + 2

abbrev pub decreases-put_struct : goal.decreases-put_struct
decreases-put_struct l = 4 * l.levels + 3

abbrev pub decreases-put_tuple : goal.decreases-put_tuple
decreases-put_tuple l = 4 * l.levels + 3

abbrev pub decreases-put_value : goal.decreases-put_value
decreases-put_value l = 4 * l.levels
