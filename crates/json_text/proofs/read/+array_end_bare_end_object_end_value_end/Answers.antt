use Rattle.std.proofs.Common.{rules, arith}
use Rattle.json_text.proofs.Values.{bare_flat, bare_array, bare_object, bare_scalar, value_bad, value_good, object_empty, object_start, members_none, members_keyless, members_bad, members_end, members_other, members_more, array_empty, array_start, items_none, items_bad, items_end, items_other, items_more}
use Rattle.json_text.proofs.read.+array_end_bare_end_object_end_value_end.Goals as goal

pub array_end-returns-then-byte-eq93 : goal.array_end-returns-then-byte-eq93
array_end-returns-then-byte-eq93 t c = search array_empty

pub array_end-loop-init : goal.array_end-loop-init
array_end-loop-init t c = (omega arith, search array_start)

pub array_end-returns-in_err-e : goal.array_end-returns-in_err-e
array_end-returns-in_err-e t c = rw c.from_residual.ensures (search (rules, items_bad, c.in_err-e.was))

pub array_end-returns-then-b-eq93 : goal.array_end-returns-then-b-eq93
array_end-returns-then-b-eq93 t c = search (rules, items_end, c.in_ok-e.was)

pub array_end-returns-then-b-ne44 : goal.array_end-returns-then-b-ne44
array_end-returns-then-b-ne44 t c = search (rules, items_other, c.in_ok-e.was)

pub array_end-loop-preserved : goal.array_end-loop-preserved
array_end-loop-preserved t c = (omega arith, search (rules, items_more, c.in_ok-e.was))

pub array_end-returns : goal.array_end-returns
array_end-returns t c = search (rules, items_none)

pub bare_end-returns-then-depth-eq0 : goal.bare_end-returns-then-depth-eq0
bare_end-returns-then-depth-eq0 t c = search bare_flat

pub bare_end-returns-in-91 : goal.bare_end-returns-in-91
bare_end-returns-in-91 t c = search bare_array

pub bare_end-returns-in-123 : goal.bare_end-returns-in-123
bare_end-returns-in-123 t c = search bare_object

pub bare_end-returns-in_default : goal.bare_end-returns-in_default
bare_end-returns-in_default t c = search bare_scalar

pub object_end-returns-then-byte-eq125 : goal.object_end-returns-then-byte-eq125
object_end-returns-then-byte-eq125 t c = search object_empty

pub object_end-loop-init : goal.object_end-loop-init
object_end-loop-init t c = (omega arith, search object_start)

pub object_end-returns-in_err-v : goal.object_end-returns-in_err-v
object_end-returns-in_err-v t c = rw c.from_residual.ensures (search (rules, members_keyless, c.in_err-v.was))

pub object_end-returns-in_err-e : goal.object_end-returns-in_err-e
object_end-returns-in_err-e t c = rw c.from_residual-in_err-e.ensures (search (rules, members_bad, c.in_ok-v.was, c.in_err-e.was))

pub object_end-returns-then-b-eq125 : goal.object_end-returns-then-b-eq125
object_end-returns-then-b-eq125 t c = search (rules, members_end, c.in_ok-v.was, c.in_ok-e.was)

pub object_end-returns-then-b-ne44 : goal.object_end-returns-then-b-ne44
object_end-returns-then-b-ne44 t c = search (rules, members_other, c.in_ok-v.was, c.in_ok-e.was)

pub object_end-loop-preserved : goal.object_end-loop-preserved
object_end-loop-preserved t c = (omega arith, search (rules, members_more, c.in_ok-v.was, c.in_ok-e.was))

pub object_end-returns : goal.object_end-returns
object_end-returns t c = search (rules, members_none)

pub value_end-returns-in_err-e : goal.value_end-returns-in_err-e
value_end-returns-in_err-e t c = rw c.from_residual.ensures (search (value_bad, c.in_err-e.was))

pub value_end-returns : goal.value_end-returns
value_end-returns t c = search (value_good, c.in_ok-e.was)
