-- `datainfo::rules::own_rules` meets its contract. Assumes nothing.
use Rattle.datainfo.proofs.Own.{own_double, own_int, own_enum, own_string, own_array, own_tuple, own_struct, own_scaled, own_blob, own_partial, own_other}
use Rattle.datainfo.proofs.rules.own_rules.Goals as goal

pub returns-in-1 : goal.returns-in-1
returns-in-1 c = search own_double

pub returns-in-2 : goal.returns-in-2
returns-in-2 c = search own_int

pub returns-in-4 : goal.returns-in-4
returns-in-4 c = search own_enum

pub returns-in-5 : goal.returns-in-5
returns-in-5 c = search own_string

pub returns-in-6 : goal.returns-in-6
returns-in-6 c = search own_array

pub returns-in-7 : goal.returns-in-7
returns-in-7 c = search own_tuple

pub returns-in-8 : goal.returns-in-8
returns-in-8 c = search own_struct

pub returns-in-9 : goal.returns-in-9
returns-in-9 c = search own_scaled

pub returns-in-10 : goal.returns-in-10
returns-in-10 c = search own_blob

pub returns-in-11 : goal.returns-in-11
returns-in-11 c = search own_partial

pub returns-in_default : goal.returns-in_default
returns-in_default c = search own_other
