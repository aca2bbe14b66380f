use Prim.Native.Nat.{◌+◌, ◌-◌, ◌≤◌, ◌<◌}
use mathlib.Core.Path.{◌≡◌, refl}
use lib.ListN.{get_or}
use native.Mathlib.Omega.{arith}
use Rattle.ascii.proofs.Bytes.{ended_within}
use Rattle.datainfo.proofs.Ends.{member_plain, member_nameless, member_variant, member_field, members_none, members_start, members_end as members-ended, members_bad, members_more, typed_double, typed_int, typed_bool, typed_enum, typed_string, typed_short, typed_array, typed_tuple, typed_struct, typed_scaled, typed_blob, typed_partial, typed_unknown, datainfo_fifth, datainfo_none, datainfo_some}
use Rattle.datainfo.proofs.layout.+datainfo_end_member_end_members_end_typed_end.Goals as goal

pub datainfo_end-returns-then-levels-eq0 : goal.datainfo_end-returns-then-levels-eq0
datainfo_end-returns-then-levels-eq0 t c = search datainfo_fifth

pub datainfo_end-returns-then-s-at : goal.datainfo_end-returns-then-s-at
datainfo_end-returns-then-s-at t c = search datainfo_none

pub datainfo_end-typed_end-requires : goal.datainfo_end-typed_end-requires
datainfo_end-typed_end-requires t c = (omega arith, omega arith)

pub datainfo_end-returns : goal.datainfo_end-returns
datainfo_end-returns t c = search datainfo_some

pub member_end-datainfo_end-requires : goal.member_end-datainfo_end-requires
member_end-datainfo_end-requires t c = (omega arith, omega arith)

pub member_end-returns-then-k-eq7 : goal.member_end-returns-then-k-eq7
member_end-returns-then-k-eq7 t c = search member_plain

pub member_end-returns-in_err-e : goal.member_end-returns-in_err-e
member_end-returns-in_err-e t c = rw c.from_residual.ensures (search (member_nameless, c.in_err-e.was))

pub member_end-part_end-requires : goal.member_end-part_end-requires
member_end-part_end-requires t c = search (ended_within, c.in_ok-e.was)

pub member_end-returns-then-k-eq4 : goal.member_end-returns-then-k-eq4
member_end-returns-then-k-eq4 t c = search (member_variant, c.in_ok-e.was)

pub member_end-datainfo_end-requires-2 : goal.member_end-datainfo_end-requires-2
member_end-datainfo_end-requires-2 t c = (omega arith, search (ended_within, c.in_ok-e.was))

pub member_end-returns : goal.member_end-returns
member_end-returns t c = search (member_field, c.in_ok-e.was)

pub members_end-returns-then-s-at : goal.members_end-returns-then-s-at
members_end-returns-then-s-at t c = search members_none

pub members_end-loop-init : goal.members_end-loop-init
members_end-loop-init t c = let z : get_or c.args.s.now c.args.at 0 - 0 ≡ get_or c.args.s.now c.args.at 0 = omega arith in (omega arith, rw z (members_start c.args.s.now c.args.at c.args.levels c.args.k (get_or c.args.s.now c.args.at 0) (omega arith) refl))

pub members_end-member_end-requires : goal.members_end-member_end-requires
members_end-member_end-requires t c = (omega arith, omega arith)

pub members_end-returns-in_err-i : goal.members_end-returns-in_err-i
members_end-returns-in_err-i t c = let h : 0 < get_or c.args.s.now c.args.at 0 - c.loop.counter = omega arith in rw c.from_residual.ensures (search (members_bad, c.in_err-i.was))

pub members_end-loop-preserved : goal.members_end-loop-preserved
members_end-loop-preserved t c = let h : 0 < get_or c.args.s.now c.args.at 0 - c.loop.counter = omega arith in let e : get_or c.args.s.now c.args.at 0 - (c.loop.counter + 1) ≡ get_or c.args.s.now c.args.at 0 - c.loop.counter - 1 = omega arith in (search (ended_within, c.in_ok-i.was), rw e (search (members_more, c.in_ok-i.was)))

pub members_end-returns : goal.members_end-returns
members_end-returns t c = let o : get_or c.args.s.now c.args.at 0 - c.loop.counter ≤ 0 = omega arith in search members-ended

pub typed_end-members_end-requires : goal.typed_end-members_end-requires
typed_end-members_end-requires t c = (omega arith, omega arith)

pub typed_end-returns-in_err-part_end-in-6 : goal.typed_end-returns-in_err-part_end-in-6
typed_end-returns-in_err-part_end-in-6 t c = rw c.from_residual.ensures (search (typed_short, c.in_err-part_end-in-6.was))

pub typed_end-datainfo_end-requires : goal.typed_end-datainfo_end-requires
typed_end-datainfo_end-requires t c = (omega arith, search (ended_within, c.in_ok-part_end-in-6.was))

pub typed_end-members_end-requires-in-7 : goal.typed_end-members_end-requires-in-7
typed_end-members_end-requires-in-7 t c = (omega arith, omega arith)

pub typed_end-members_end-requires-in-8 : goal.typed_end-members_end-requires-in-8
typed_end-members_end-requires-in-8 t c = (omega arith, omega arith)

pub typed_end-members_end-requires-in-11 : goal.typed_end-members_end-requires-in-11
typed_end-members_end-requires-in-11 t c = (omega arith, omega arith)

pub typed_end-returns-in-1 : goal.typed_end-returns-in-1
typed_end-returns-in-1 t c = search typed_double

pub typed_end-returns-in-2 : goal.typed_end-returns-in-2
typed_end-returns-in-2 t c = search typed_int

pub typed_end-returns-in-3 : goal.typed_end-returns-in-3
typed_end-returns-in-3 t c = search typed_bool

pub typed_end-returns-in-4 : goal.typed_end-returns-in-4
typed_end-returns-in-4 t c = search typed_enum

pub typed_end-returns-in-5 : goal.typed_end-returns-in-5
typed_end-returns-in-5 t c = search typed_string

pub typed_end-returns-in_ok-part_end-in-6 : goal.typed_end-returns-in_ok-part_end-in-6
typed_end-returns-in_ok-part_end-in-6 t c = search (typed_array, c.in_ok-part_end-in-6.was)

pub typed_end-returns-in-7 : goal.typed_end-returns-in-7
typed_end-returns-in-7 t c = search typed_tuple

pub typed_end-returns-in-8 : goal.typed_end-returns-in-8
typed_end-returns-in-8 t c = search typed_struct

pub typed_end-returns-in-9 : goal.typed_end-returns-in-9
typed_end-returns-in-9 t c = search typed_scaled

pub typed_end-returns-in-10 : goal.typed_end-returns-in-10
typed_end-returns-in-10 t c = search typed_blob

pub typed_end-returns-in-11 : goal.typed_end-returns-in-11
typed_end-returns-in-11 t c = search typed_partial

pub typed_end-returns-in_default : goal.typed_end-returns-in_default
typed_end-returns-in_default t c = search typed_unknown
