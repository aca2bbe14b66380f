-- `node::unreadable::jihfasul_unreadable` meets its contract. Assumes nothing.
use Rattle.rack.proofs.Readings.{read_table_lem}
use Rattle.node.proofs.Unread.{unread_lent, unread_past, unread_none, unread_unknown, unread_tells, unread_taken}
use Rattle.node.proofs.unreadable.jihfasul_unreadable.Goals as goal

pub returns-then-number-ne0 : goal.returns-then-number-ne0
returns-then-number-ne0 c = search unread_lent

pub returns-then-parameter-gt-LAST_PARAMETER : goal.returns-then-parameter-gt-LAST_PARAMETER
returns-then-parameter-gt-LAST_PARAMETER c = search unread_past

pub parameter_by_number-requires : goal.parameter_by_number-requires
parameter_by_number-requires c = read_table_lem _ _ _ _ _ _ c.lent_number-number.ensures c.if-number-ne0.false

pub returns-in_default : goal.returns-in_default
returns-in_default c = search unread_none

pub returns-in_default-sensor_of : goal.returns-in_default-sensor_of
returns-in_default-sensor_of c = search unread_unknown

pub take_unreadable-done-requires : goal.take_unreadable-done-requires
take_unreadable-done-requires c = search unread_tells

pub returns : goal.returns
returns c = unread_taken _ c.args.state _ _ _ _ c.args.time _ _ c.lent_number-number.ensures c.if-number-ne0.false _
    c.parameter_by_number.ensures _ _ c.in-Some.is _ c.sensor_of.ensures _
    c.in-Fails.is c.bare_of.ensures c.take_unreadable-done.ensures c.done_by.ensures
