use borrow.Author.Rules.{rules}
use native.Mathlib.Omega.{arith}
use mathlib.Core.Path.{refl}
use Rattle.ascii.specs.Text.{bytes}
use Rattle.ascii.proofs.Bytes.{ended_within}
use Rattle.datainfo.proofs.Own.{unsigned_within}
use Rattle.infos.proofs.Infos.{array_none, array_one, array_told}
use Rattle.infos.proofs.Nested.{member_plain, member_variant, member_field, members_none, members_start, list_told, members_end, members_bad, members_more, not_first, typed_double, typed_int, typed_bool, typed_enum, typed_string, typed_array, typed_tuple, typed_struct, typed_scaled, typed_blob, typed_partial, typed_unknown, datainfo_fifth, datainfo_none, datainfo_some}
use Rattle.infos.proofs.+emit_array_emit_datainfo_emit_list_emit_member_emit_members_emit_typed.Goals as goal

pub emit_array-unsigned-requires : goal.emit_array-unsigned-requires
emit_array-unsigned-requires t c = (omega arith, omega arith)

pub emit_array-returns-in_default : goal.emit_array-returns-in_default
emit_array-returns-in_default t c = search array_none

pub emit_array-unsigned-requires-2 : goal.emit_array-unsigned-requires-2
emit_array-unsigned-requires-2 t c = (search unsigned_within, omega arith)

pub emit_array-returns-in_default-unsigned : goal.emit_array-returns-in_default-unsigned
emit_array-returns-in_default-unsigned t c = search array_one

pub emit_array-emit_datainfo-b-requires : goal.emit_array-emit_datainfo-b-requires
emit_array-emit_datainfo-b-requires t c = (omega arith, search unsigned_within)

pub emit_array-returns : goal.emit_array-returns
unfolding bytes
emit_array-returns t c = search array_told

pub emit_datainfo-returns-then-levels-eq0 : goal.emit_datainfo-returns-then-levels-eq0
emit_datainfo-returns-then-levels-eq0 t c = search datainfo_fifth

pub emit_datainfo-returns-then-s-i : goal.emit_datainfo-returns-then-s-i
emit_datainfo-returns-then-s-i t c = search datainfo_none

pub emit_datainfo-emit_typed-requires : goal.emit_datainfo-emit_typed-requires
emit_datainfo-emit_typed-requires t c = (omega arith, omega arith)

pub emit_datainfo-returns : goal.emit_datainfo-returns
emit_datainfo-returns t c = search datainfo_some

pub emit_list-emit_members-b-requires : goal.emit_list-emit_members-b-requires
emit_list-emit_members-b-requires t c = (omega arith, omega arith)

pub emit_list-returns : goal.emit_list-returns
emit_list-returns t c = search list_told

pub emit_member-emit_datainfo-requires : goal.emit_member-emit_datainfo-requires
emit_member-emit_datainfo-requires t c = (omega arith, omega arith)

pub emit_member-returns-then-k-eq7 : goal.emit_member-returns-then-k-eq7
emit_member-returns-then-k-eq7 t c = search member_plain

pub emit_member-returns-then-k-eq4 : goal.emit_member-returns-then-k-eq4
unfolding bytes
emit_member-returns-then-k-eq4 t c = search member_variant

pub emit_member-emit_datainfo-requires-2 : goal.emit_member-emit_datainfo-requires-2
emit_member-emit_datainfo-requires-2 t c = (omega arith, omega arith)

pub emit_member-returns : goal.emit_member-returns
unfolding bytes
emit_member-returns t c = search member_field

pub emit_members-returns-then-s-i : goal.emit_members-returns-then-s-i
emit_members-returns-then-s-i t c = search members_none

pub emit_members-loop-m-init : goal.emit_members-loop-m-init
emit_members-loop-m-init t c = (omega arith, refl, omega arith, search (arith, members_start))

pub emit_members-returns-in_default : goal.emit_members-returns-in_default
emit_members-returns-in_default t c = search (arith, members_bad)

pub emit_members-emit_member-p-requires : goal.emit_members-emit_member-p-requires
emit_members-emit_member-p-requires t c = (omega arith, omega arith)

pub emit_members-loop-m-preserved : goal.emit_members-loop-m-preserved
emit_members-loop-m-preserved t c = (search ended_within, search rules, omega arith, search (arith, members_more, not_first))

pub emit_members-returns : goal.emit_members-returns
emit_members-returns t c = search (arith, members_end)

pub emit_typed-emit_list-requires : goal.emit_typed-emit_list-requires
emit_typed-emit_list-requires t c = (omega arith, omega arith)

pub emit_typed-emit_array-requires : goal.emit_typed-emit_array-requires
emit_typed-emit_array-requires t c = (omega arith, omega arith)

pub emit_typed-emit_list-requires-in-7 : goal.emit_typed-emit_list-requires-in-7
emit_typed-emit_list-requires-in-7 t c = (omega arith, omega arith)

pub emit_typed-emit_list-requires-in-8 : goal.emit_typed-emit_list-requires-in-8
emit_typed-emit_list-requires-in-8 t c = (omega arith, omega arith)

pub emit_typed-returns-in-1 : goal.emit_typed-returns-in-1
emit_typed-returns-in-1 t c = search typed_double

pub emit_typed-returns-in-2 : goal.emit_typed-returns-in-2
emit_typed-returns-in-2 t c = search typed_int

pub emit_typed-returns-in-3 : goal.emit_typed-returns-in-3
unfolding bytes
emit_typed-returns-in-3 t c = search typed_bool

pub emit_typed-returns-in-4 : goal.emit_typed-returns-in-4
emit_typed-returns-in-4 t c = search typed_enum

pub emit_typed-returns-in-5 : goal.emit_typed-returns-in-5
emit_typed-returns-in-5 t c = search typed_string

pub emit_typed-returns-in-6 : goal.emit_typed-returns-in-6
emit_typed-returns-in-6 t c = search typed_array

pub emit_typed-returns-in-7 : goal.emit_typed-returns-in-7
emit_typed-returns-in-7 t c = search typed_tuple

pub emit_typed-returns-in-8 : goal.emit_typed-returns-in-8
emit_typed-returns-in-8 t c = search typed_struct

pub emit_typed-returns-in-9 : goal.emit_typed-returns-in-9
emit_typed-returns-in-9 t c = search typed_scaled

pub emit_typed-returns-in-10 : goal.emit_typed-returns-in-10
emit_typed-returns-in-10 t c = search typed_blob

pub emit_typed-emit_list-requires-in-11 : goal.emit_typed-emit_list-requires-in-11
emit_typed-emit_list-requires-in-11 t c = (omega arith, omega arith)

pub emit_typed-returns-in-11 : goal.emit_typed-returns-in-11
emit_typed-returns-in-11 t c = search typed_partial

pub emit_typed-returns-in_default : goal.emit_typed-returns-in_default
emit_typed-returns-in_default t c = search typed_unknown
