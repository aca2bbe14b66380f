-- `access::execute` meets its contract. Assumes nothing.
use Rattle.access.proofs.Finding.{argument_known, command_known}
use Rattle.access.proofs.Executed.{execute_denied, execute_ordered, execute_sent}
use Rattle.access.proofs.execute.Goals as goal

pub argument_verdict-requires : goal.argument_verdict-requires
argument_verdict-requires c = argument_known (command_known _ c.requires.0.accepted _ _ _ _ _ c.requires.1.1)

pub order-requires : goal.order-requires
order-requires c = execute_ordered _ _ _ _ c.requires.0 _ _ _ _ _ _ c.requires.1.1 _ c.argument_verdict.ensures _ c.let_in.ensures c.in_default.is c.requires.1.0

pub returns-in-Err : goal.returns-in-Err
returns-in-Err c = execute_denied _ _ _ _ c.requires.0 _ _ _ _ _ _ c.requires.1.1 _ c.argument_verdict.ensures _ c.let_in.ensures _ c.in-Err.is

pub returns : goal.returns
returns c = execute_sent _ _ _ _ c.requires.0 _ _ _ _ _ _ c.requires.1.1 _ c.argument_verdict.ensures _ c.let_in.ensures c.in_default.is
    _ _ c.order.ensures
