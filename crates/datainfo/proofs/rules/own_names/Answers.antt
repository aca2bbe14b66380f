-- `datainfo::rules::own_names` meets its contract. Assumes nothing.
use Rattle.datainfo.proofs.Own.{own_enum_names, own_struct_names, own_partial_names, own_nameless}
use Rattle.datainfo.proofs.rules.own_names.Goals as goal

pub returns-in-4 : goal.returns-in-4
returns-in-4 c = search own_enum_names

pub returns-in-8 : goal.returns-in-8
returns-in-8 c = search own_struct_names

pub returns-in-11 : goal.returns-in-11
returns-in-11 c = search own_partial_names

pub returns-in_default : goal.returns-in_default
returns-in_default c = search own_nameless
