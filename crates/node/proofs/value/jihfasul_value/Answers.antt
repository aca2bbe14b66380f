-- `node::value::jihfasul_value` meets its contract. Assumes nothing.
use Rattle.node.proofs.Shows.{value_lent, value_table, value_past, value_none, value_part, value_found}
use borrow.Author.Rules.{rules}
use Rattle.node.proofs.value.jihfasul_value.Goals as goal

pub returns-then-number-ne0 : goal.returns-then-number-ne0
returns-then-number-ne0 c = search value_lent

pub returns-then-parameter-gt-LAST_PARAMETER : goal.returns-then-parameter-gt-LAST_PARAMETER
returns-then-parameter-gt-LAST_PARAMETER c = search value_past

pub parameter_by_number-requires : goal.parameter_by_number-requires
parameter_by_number-requires c = search value_table

pub returns-in_default : goal.returns-in_default
returns-in_default c = search value_none

pub held_shown-requires : goal.held_shown-requires
held_shown-requires c = (search rules, search value_part)

pub returns : goal.returns
returns c = search value_found
