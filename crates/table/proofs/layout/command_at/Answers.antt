-- `table::layout::command_at` meets its contract. Assumes nothing.
use Rattle.table.proofs.Accessibles.{command_untold, command_flagless, command_typeless, command_good}
use Rattle.table.proofs.layout.command_at.Goals as goal

pub returns-in_err-name : goal.returns-in_err-name
returns-in_err-name c = rw c.from_residual.ensures (search (command_untold, c.in_err-name.was))

pub returns-in_err-argument : goal.returns-in_err-argument
returns-in_err-argument c = rw c.from_residual-in_err-argument.ensures (search (command_flagless, c.in_ok-name.was, c.in_err-argument.was))

pub returns-in_err-next : goal.returns-in_err-next
returns-in_err-next c = rw c.from_residual-in_err-next.ensures (search (command_typeless, c.in_ok-name.was, c.in_ok-argument.was, c.in_err-next.was))

pub returns : goal.returns
returns c = search (command_good, c.in_ok-name.was, c.in_ok-argument.was, c.in_ok-next.was)
