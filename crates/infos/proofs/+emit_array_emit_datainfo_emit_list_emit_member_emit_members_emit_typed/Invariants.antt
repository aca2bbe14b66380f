-- The cycle of calls {emit_array, emit_datainfo, emit_list, emit_member, emit_members, emit_typed}. The levels left fall with each
-- datainfo inside another, so the measures are five times these, plus 0 for `emit_datainfo`, 1 for `emit_array` and `emit_member`, 2 for
-- `emit_members`, 3 for `emit_list` and 4 for `emit_typed`. Assumes nothing.
use mathlib.Core.Path.{◌≡◌}
use lib.Dec.{eqb}
use lib.ListN.{length, drop}
use Rattle.datainfo.specs.Layout.{datainfo_in}
use Rattle.infos.specs.Clauses.Texts.{count_text}
use Rattle.emit.proofs.Says.{Leads}
use Rattle.infos.proofs.Nested.{to_come}
use Prim.Native.Nat.{◌+◌, ◌-◌, ◌*◌, ◌≤◌}
use Rattle.infos.proofs.+emit_array_emit_datainfo_emit_list_emit_member_emit_members_emit_typed.Given as goal

abbrev pub invariant-emit_members-loop-m : goal.invariant-emit_members-loop-m
invariant-emit_members-loop-m l = (l.j ≤ length l.s) × (length l.out ≡ length l.initial.out) × (l.p ≤ 18446744073709551615) × Leads (count_text (datainfo_in l.levels) l.k (drop l.i l.s)) l.initial.out l.at (to_come l.s l.levels l.k (eqb l.m 0) (l.count - l.m) l.j) l.out l.p

abbrev pub decreases-emit_array : goal.decreases-emit_array
decreases-emit_array l = 5 * l.levels + 1

abbrev pub decreases-emit_datainfo : goal.decreases-emit_datainfo
decreases-emit_datainfo l = 5 * l.levels

abbrev pub decreases-emit_list : goal.decreases-emit_list
decreases-emit_list l = 5 * l.levels + 3

abbrev pub decreases-emit_member : goal.decreases-emit_member
decreases-emit_member l = 5 * l.levels + 1

abbrev pub decreases-emit_members : goal.decreases-emit_members
decreases-emit_members l = 5 * l.levels + 2

abbrev pub decreases-emit_typed : goal.decreases-emit_typed
decreases-emit_typed l = 5 * l.levels + 4
