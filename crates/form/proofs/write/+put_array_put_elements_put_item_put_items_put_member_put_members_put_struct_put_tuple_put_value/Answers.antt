use Rattle.ascii.proofs.Bytes.{ended_within}
use Rattle.datainfo.proofs.Own.{unsigned_within}
use Rattle.fit.proofs.Walks.{inside_ends}
use Rattle.form.proofs.Rows.{not_first, item_put, row_first, row_over, row_cut, row_more, array_no, array_short, array_whole}
use Rattle.form.proofs.Rows.{elements_short, elements_first, elements_few, elements_over, elements_bad, elements_more, tuple_no, tuple_whole}
use Rattle.form.proofs.Members.{member_cut, member_put, object_first, object_over, object_cut, object_more, struct_no, struct_whole}
use Rattle.form.proofs.Typed.{forms_fifth, forms_short, forms_enum_at, forms_array, forms_tuple, forms_struct, forms_partial, forms_plain}
use borrow.Author.Rules.{rules}
use native.Mathlib.Omega.{arith}
use Rattle.form.proofs.write.+put_array_put_elements_put_item_put_items_put_member_put_members_put_struct_put_tuple_put_value.Goals as goal

pub put_array-returns-then-depth-eq0 : goal.put_array-returns-then-depth-eq0
put_array-returns-then-depth-eq0 t c = search array_no

pub put_array-returns-in_default : goal.put_array-returns-in_default
put_array-returns-in_default t c = search array_short

pub put_array-returns : goal.put_array-returns
put_array-returns t c = search array_whole

pub put_elements-returns-in_default : goal.put_elements-returns-in_default
put_elements-returns-in_default t c = search elements_short

pub put_elements-loop-n-init : goal.put_elements-loop-n-init
put_elements-loop-n-init t c = (search inside_ends, search unsigned_within, elements_first _ _ _ _ _ _ _ c.unsigned.ensures (omega arith) _ _ c.in-Some.is _ _ (omega arith) _ (search rules) _ (omega arith))

pub put_elements-returns-in_default-item : goal.put_elements-returns-in_default-item
put_elements-returns-in_default-item t c = search (arith, elements_few)

pub put_elements-returns-in_default-datainfo_end : goal.put_elements-returns-in_default-datainfo_end
put_elements-returns-in_default-datainfo_end t c = search (arith, elements_bad)

pub put_elements-loop-n-preserved : goal.put_elements-loop-n-preserved
put_elements-loop-n-preserved t c = (search inside_ends, search ended_within, search (arith, elements_more, not_first))

pub put_elements-returns : goal.put_elements-returns
put_elements-returns t c = search (arith, elements_over)

pub put_item-returns : goal.put_item-returns
put_item-returns t c = search item_put

pub put_items-loop-init : goal.put_items-loop-init
put_items-loop-init t c = (search inside_ends, row_first _ _ _ _ _ _ (omega arith) (omega arith) _ (search rules))

pub put_items-returns-in_default : goal.put_items-returns-in_default
put_items-returns-in_default t c = search (arith, row_over)

pub put_items-loop-preserved : goal.put_items-loop-preserved
put_items-loop-preserved t c = (search inside_ends, search (arith, row_more))

pub put_items-returns : goal.put_items-returns
put_items-returns t c = search (arith, row_cut)

pub put_member-returns-in_default-member_value : goal.put_member-returns-in_default-member_value
put_member-returns-in_default-member_value t c = search member_cut

pub put_member-returns : goal.put_member-returns
put_member-returns t c = search member_put

pub put_members-loop-init : goal.put_members-loop-init
put_members-loop-init t c = (search inside_ends, object_first _ _ _ _ _ _ (omega arith) _ (search rules))

pub put_members-returns-in_default : goal.put_members-returns-in_default
put_members-returns-in_default t c = search (arith, object_over)

pub put_members-loop-preserved : goal.put_members-loop-preserved
put_members-loop-preserved t c = (search inside_ends, search (arith, object_more))

pub put_members-returns : goal.put_members-returns
put_members-returns t c = search (arith, object_cut)

pub put_struct-returns-then-depth-eq0 : goal.put_struct-returns-then-depth-eq0
put_struct-returns-then-depth-eq0 t c = search struct_no

pub put_struct-returns : goal.put_struct-returns
put_struct-returns t c = search struct_whole

pub put_tuple-returns-then-depth-eq0 : goal.put_tuple-returns-then-depth-eq0
put_tuple-returns-then-depth-eq0 t c = search tuple_no

pub put_tuple-returns : goal.put_tuple-returns
put_tuple-returns t c = search tuple_whole

pub put_value-returns-then-levels-eq0 : goal.put_value-returns-then-levels-eq0
put_value-returns-then-levels-eq0 t c = search forms_fifth

pub put_value-returns-in_default : goal.put_value-returns-in_default
put_value-returns-in_default t c = search forms_short

pub put_value-returns-in-4 : goal.put_value-returns-in-4
put_value-returns-in-4 t c = search forms_enum_at

pub put_value-returns-in-6 : goal.put_value-returns-in-6
put_value-returns-in-6 t c = search forms_array

pub put_value-returns-in-7 : goal.put_value-returns-in-7
put_value-returns-in-7 t c = search forms_tuple

pub put_value-returns-in-8 : goal.put_value-returns-in-8
put_value-returns-in-8 t c = search forms_struct

pub put_value-returns-in-11 : goal.put_value-returns-in-11
put_value-returns-in-11 t c = search forms_partial

pub put_value-returns-in_default-k : goal.put_value-returns-in_default-k
put_value-returns-in_default-k t c = search forms_plain
