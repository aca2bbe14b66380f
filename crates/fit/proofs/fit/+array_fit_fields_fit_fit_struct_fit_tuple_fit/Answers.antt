use Prim.Native.Nat.{◌+◌, ◌-◌, ◌≤◌, ◌<◌}
use mathlib.Core.Path.{◌≡◌}
use lib.ListN.{length}
use native.Mathlib.Omega.{arith}
use Rattle.ascii.proofs.Bytes.{ended_within}
use Rattle.datainfo.proofs.Own.{unsigned_within}
use Rattle.fit.proofs.Asked.{was_none, was_some, not_some, some_at}
use Rattle.fit.proofs.Walks.{inside_ends, inside_at}
use Rattle.fit.proofs.Nested.{array_shallow, array_other, array_short, array_first, array_over, array_cut, array_more}
use Rattle.fit.proofs.Nested.{tuple_shallow, tuple_other, tuple_short, tuple_first, tuple_few, tuple_over, tuple_many, tuple_bad, tuple_more}
use Rattle.fit.proofs.Objects.{found_within}
use Rattle.fit.proofs.Structs.{struct_shallow, struct_other, struct_uneven, struct_even}
use Rattle.fit.proofs.Structs.{values_short, values_first, values_over, values_nameless, values_lost, values_bad, values_more}
use Rattle.fit.proofs.Typed.{fit_fifth, fit_short, fit_array, fit_tuple, fit_struct, fit_partial, fit_plain}
use Rattle.fit.proofs.fit.+array_fit_fields_fit_fit_struct_fit_tuple_fit.Goals as goal

pub array_fit-returns-then-depth-eq0 : goal.array_fit-returns-then-depth-eq0
array_fit-returns-then-depth-eq0 t c = search array_shallow

pub array_fit-returns-then-byte-ne91 : goal.array_fit-returns-then-byte-ne91
array_fit-returns-then-byte-ne91 t c = search array_other

pub array_fit-returns-in_err-inner : goal.array_fit-returns-in_err-inner
array_fit-returns-in_err-inner t c = search (array_short, was_none c.ok_or.ensures.value c.in_err-inner.was)

pub array_fit-loop-init : goal.array_fit-loop-init
array_fit-loop-init t c = (search inside_ends, (omega arith, search (array_first, was_some c.ok_or.ensures.value c.in_ok-inner.was)))

pub array_fit-returns-in_default : goal.array_fit-returns-in_default
array_fit-returns-in_default t c = search array_over

pub array_fit-spaces_end-requires : goal.array_fit-spaces_end-requires
array_fit-spaces_end-requires t c = search inside_at

pub array_fit-fit-requires : goal.array_fit-fit-requires
array_fit-fit-requires t c = (omega arith, (search (ended_within, was_some c.ok_or.ensures.value c.in_ok-inner.was), omega arith))

pub array_fit-next-item-requires : goal.array_fit-next-item-requires
array_fit-next-item-requires t c = search inside_at

pub array_fit-loop-preserved : goal.array_fit-loop-preserved
array_fit-loop-preserved t c = let h : 0 < length c.args.v.now - c.loop.counter = omega arith in let e : length c.args.v.now - (c.loop.counter + 1) ≡ length c.args.v.now - c.loop.counter - 1 = omega arith in (search inside_ends, (omega arith, rw e (search array_more)))

pub array_fit-returns : goal.array_fit-returns
array_fit-returns t c = let z : length c.args.v.now - c.loop.counter ≤ 0 = omega arith in search array_cut

pub fields_fit-unsigned-requires : goal.fields_fit-unsigned-requires
fields_fit-unsigned-requires t c = (omega arith, omega arith)

pub fields_fit-returns-in_err-count : goal.fields_fit-returns-in_err-count
fields_fit-returns-in_err-count t c = search (values_short, was_none c.ok_or.ensures.value c.in_err-count.was)

pub fields_fit-loop-init : goal.fields_fit-loop-init
fields_fit-loop-init t c = let z : c.in_ok-count.count - 0 ≡ c.in_ok-count.count = omega arith in (search (unsigned_within, was_some c.ok_or.ensures.value c.in_ok-count.was), rw z (search (values_first, was_some c.ok_or.ensures.value c.in_ok-count.was)))

pub fields_fit-returns-in_err-inner : goal.fields_fit-returns-in_err-inner
fields_fit-returns-in_err-inner t c = let h : 0 < c.in_ok-count.count - c.loop.counter = omega arith in search (values_nameless, was_none c.ok_or-in-loop.ensures.value c.in_err-inner.was)

pub fields_fit-returns-in_err-q : goal.fields_fit-returns-in_err-q
fields_fit-returns-in_err-q t c = let h : 0 < c.in_ok-count.count - c.loop.counter = omega arith in search (values_lost, was_some c.ok_or-in-loop.ensures.value c.in_ok-inner.was, was_none c.ok_or-in-loop-2.ensures.value c.in_err-q.was)

pub fields_fit-datainfo_end-requires : goal.fields_fit-datainfo_end-requires
fields_fit-datainfo_end-requires t c = search (ended_within, was_some c.ok_or-in-loop.ensures.value c.in_ok-inner.was)

pub fields_fit-returns-in_err-e : goal.fields_fit-returns-in_err-e
fields_fit-returns-in_err-e t c = let h : 0 < c.in_ok-count.count - c.loop.counter = omega arith in search (values_bad, was_some c.ok_or-in-loop.ensures.value c.in_ok-inner.was, was_some c.ok_or-in-loop-2.ensures.value c.in_ok-q.was, was_none c.ok_or-in-loop-3.ensures.value c.in_err-e.was)

pub fields_fit-fit-requires : goal.fields_fit-fit-requires
fields_fit-fit-requires t c = (omega arith, (search (ended_within, was_some c.ok_or-in-loop.ensures.value c.in_ok-inner.was), search (found_within, was_some c.ok_or-in-loop-2.ensures.value c.in_ok-q.was)))

pub fields_fit-loop-preserved : goal.fields_fit-loop-preserved
fields_fit-loop-preserved t c = let h : 0 < c.in_ok-count.count - c.loop.counter = omega arith in let e : c.in_ok-count.count - (c.loop.counter + 1) ≡ c.in_ok-count.count - c.loop.counter - 1 = omega arith in (search (ended_within, was_some c.ok_or-in-loop-3.ensures.value c.in_ok-e.was), rw e (search (values_more, was_some c.ok_or-in-loop.ensures.value c.in_ok-inner.was, was_some c.ok_or-in-loop-2.ensures.value c.in_ok-q.was, was_some c.ok_or-in-loop-3.ensures.value c.in_ok-e.was)))

pub fields_fit-returns : goal.fields_fit-returns
fields_fit-returns t c = let z : c.in_ok-count.count - c.loop.counter ≤ 0 = omega arith in search values_over

pub fit-returns-then-levels-eq0 : goal.fit-returns-then-levels-eq0
fit-returns-then-levels-eq0 t c = search fit_fifth

pub fit-unsigned-requires : goal.fit-unsigned-requires
fit-unsigned-requires t c = (omega arith, omega arith)

pub fit-returns-in_err-k : goal.fit-returns-in_err-k
fit-returns-in_err-k t c = search (fit_short, was_none c.ok_or.ensures.value c.in_err-k.was)

pub fit-array_fit-requires : goal.fit-array_fit-requires
fit-array_fit-requires t c = (omega arith, (search (unsigned_within, was_some c.ok_or.ensures.value c.in_ok-k.was), omega arith))

pub fit-returns-then-k-eq6 : goal.fit-returns-then-k-eq6
fit-returns-then-k-eq6 t c = search (fit_array, was_some c.ok_or.ensures.value c.in_ok-k.was)

pub fit-tuple_fit-requires : goal.fit-tuple_fit-requires
fit-tuple_fit-requires t c = (omega arith, (search (unsigned_within, was_some c.ok_or.ensures.value c.in_ok-k.was), omega arith))

pub fit-returns-then-k-eq7 : goal.fit-returns-then-k-eq7
fit-returns-then-k-eq7 t c = search (fit_tuple, was_some c.ok_or.ensures.value c.in_ok-k.was)

pub fit-struct_fit-requires : goal.fit-struct_fit-requires
fit-struct_fit-requires t c = (omega arith, (search (unsigned_within, was_some c.ok_or.ensures.value c.in_ok-k.was), omega arith))

pub fit-returns-then-k-eq8 : goal.fit-returns-then-k-eq8
fit-returns-then-k-eq8 t c = search (fit_struct, was_some c.ok_or.ensures.value c.in_ok-k.was)

pub fit-struct_fit-requires-then-k-eq11 : goal.fit-struct_fit-requires-then-k-eq11
fit-struct_fit-requires-then-k-eq11 t c = (omega arith, (search (unsigned_within, was_some c.ok_or.ensures.value c.in_ok-k.was), omega arith))

pub fit-returns-then-k-eq11 : goal.fit-returns-then-k-eq11
fit-returns-then-k-eq11 t c = search (fit_partial, was_some c.ok_or.ensures.value c.in_ok-k.was)

pub fit-plain_fit-requires : goal.fit-plain_fit-requires
fit-plain_fit-requires t c = (search (unsigned_within, was_some c.ok_or.ensures.value c.in_ok-k.was), omega arith)

pub fit-returns : goal.fit-returns
fit-returns t c = search (fit_plain, c.plain_fit.ensures, was_some c.ok_or.ensures.value c.in_ok-k.was)

pub struct_fit-returns-then-depth-eq0 : goal.struct_fit-returns-then-depth-eq0
struct_fit-returns-then-depth-eq0 t c = search struct_shallow

pub struct_fit-returns-then-byte-ne123 : goal.struct_fit-returns-then-byte-ne123
struct_fit-returns-then-byte-ne123 t c = search struct_other

pub struct_fit-each_once-requires : goal.struct_fit-each_once-requires
struct_fit-each_once-requires t c = (omega arith, omega arith)

pub struct_fit-fields_fit-requires : goal.struct_fit-fields_fit-requires
struct_fit-fields_fit-requires t c = (omega arith, (omega arith, omega arith))

pub struct_fit-returns-then-each_once : goal.struct_fit-returns-then-each_once
struct_fit-returns-then-each_once t c = search struct_even

pub struct_fit-returns : goal.struct_fit-returns
struct_fit-returns t c = search struct_uneven

pub tuple_fit-returns-then-depth-eq0 : goal.tuple_fit-returns-then-depth-eq0
tuple_fit-returns-then-depth-eq0 t c = search tuple_shallow

pub tuple_fit-returns-then-byte-ne91 : goal.tuple_fit-returns-then-byte-ne91
tuple_fit-returns-then-byte-ne91 t c = search tuple_other

pub tuple_fit-unsigned-requires : goal.tuple_fit-unsigned-requires
tuple_fit-unsigned-requires t c = (omega arith, omega arith)

pub tuple_fit-returns-in_err-count : goal.tuple_fit-returns-in_err-count
tuple_fit-returns-in_err-count t c = search (tuple_short, was_none c.ok_or.ensures.value c.in_err-count.was)

pub tuple_fit-loop-init : goal.tuple_fit-loop-init
tuple_fit-loop-init t c = let a = c.args in let z : c.in_ok-count.count - 0 ≡ c.in_ok-count.count = omega arith in (
  search inside_ends,
  (
    search (unsigned_within, was_some c.ok_or.ensures.value c.in_ok-count.was),
    rw z (tuple_first a.s.now a.at a.levels a.v.now a.p a.depth _ c.byte.ensures
        _ c.unsigned.ensures c.if-depth-eq0.false c.if-byte-ne91.false _ _ (was_some c.ok_or.ensures.value c.in_ok-count.was) _ c.first-item.ensures),
  ),
)

pub tuple_fit-returns-in_default : goal.tuple_fit-returns-in_default
tuple_fit-returns-in_default t c = let h : 0 < c.in_ok-count.count - c.loop.counter = omega arith in search tuple_few

pub tuple_fit-returns-in_err-e : goal.tuple_fit-returns-in_err-e
tuple_fit-returns-in_err-e t c = let h : 0 < c.in_ok-count.count - c.loop.counter = omega arith in search (tuple_bad, was_none c.ok_or-in-loop.ensures.value c.in_err-e.was)

pub tuple_fit-spaces_end-requires : goal.tuple_fit-spaces_end-requires
tuple_fit-spaces_end-requires t c = search inside_at

pub tuple_fit-fit-requires : goal.tuple_fit-fit-requires
tuple_fit-fit-requires t c = (omega arith, (omega arith, omega arith))

pub tuple_fit-next-item-requires : goal.tuple_fit-next-item-requires
tuple_fit-next-item-requires t c = search inside_at

pub tuple_fit-loop-preserved : goal.tuple_fit-loop-preserved
tuple_fit-loop-preserved t c = let h : 0 < c.in_ok-count.count - c.loop.counter = omega arith in let e : c.in_ok-count.count - (c.loop.counter + 1) ≡ c.in_ok-count.count - c.loop.counter - 1 = omega arith in (search inside_ends, (search (ended_within, was_some c.ok_or-in-loop.ensures.value c.in_ok-e.was), rw e (search (tuple_more, was_some c.ok_or-in-loop.ensures.value c.in_ok-e.was))))

pub tuple_fit-returns : goal.tuple_fit-returns
tuple_fit-returns t c = let z : c.in_ok-count.count - c.loop.counter ≤ 0 = omega arith in search (tuple_over, not_some _ _ c.is_some.ensures c.if-is_some.false)

pub tuple_fit-returns-then-is_some : goal.tuple_fit-returns-then-is_some
tuple_fit-returns-then-is_some t c = let z : c.in_ok-count.count - c.loop.counter ≤ 0 = omega arith in some_at _ _ c.is_some.ensures c.if-is_some.true λ i w. search tuple_many
