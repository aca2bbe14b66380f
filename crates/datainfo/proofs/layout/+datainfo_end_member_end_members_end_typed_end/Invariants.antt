-- The cycle of calls {datainfo_end, member_end, members_end, typed_end}. A level of datainfos is four calls deep, so the measures are four
-- times the levels left, plus 0 for `datainfo_end`, 1 for `member_end`, 2 for `members_end` and 3 for `typed_end`. Assumes nothing.
use Prim.Native.Nat.{◌+◌, ◌*◌, ◌≤◌, ◌-◌}
use mathlib.Core.Path.{◌≡◌}
use lib.ListN.{length, drop}
use Rattle.datainfo.specs.Layout.{datainfo_in}
use Rattle.datainfo.specs.Clauses.Members.{after_members, after_count}
use Rattle.datainfo.proofs.layout.+datainfo_end_member_end_members_end_typed_end.Given as goal

abbrev pub invariant-members_end-loop : goal.invariant-members_end-loop
invariant-members_end-loop l = (l.i ≤ length l.s) × (after_count (datainfo_in l.levels) l.k (drop l.at l.s) ≡ after_members (datainfo_in l.levels) l.k (l.count - l.counter) (drop l.i l.s))

abbrev pub decreases-datainfo_end : goal.decreases-datainfo_end
decreases-datainfo_end l = 4 * l.levels

abbrev pub decreases-member_end : goal.decreases-member_end
decreases-member_end l = 4 * l.levels + 1

abbrev pub decreases-members_end : goal.decreases-members_end
decreases-members_end l = 4 * l.levels + 2

abbrev pub decreases-typed_end : goal.decreases-typed_end
decreases-typed_end l = 4 * l.levels + 3
