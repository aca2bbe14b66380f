-- `table::layout::parameter_at` meets its contract. Assumes nothing.
use Rattle.table.proofs.Accessibles.{parameter_untold, parameter_flagless, parameter_typeless, parameter_valueless, parameter_good}
use Rattle.table.proofs.layout.parameter_at.Goals as goal

pub returns-in_err-name : goal.returns-in_err-name
returns-in_err-name c = rw c.from_residual.ensures (search (parameter_untold, c.in_err-name.was))

pub returns-in_err-readonly : goal.returns-in_err-readonly
returns-in_err-readonly c = rw c.from_residual-in_err-readonly.ensures (search (parameter_flagless, c.in_ok-name.was, c.in_err-readonly.was))

pub returns-in_err-end : goal.returns-in_err-end
returns-in_err-end c = rw c.from_residual-in_err-end.ensures (search (parameter_typeless, c.in_ok-name.was, c.in_ok-readonly.was, c.in_err-end.was))

pub returns-in_err-initial : goal.returns-in_err-initial
returns-in_err-initial c = rw c.from_residual-in_err-initial.ensures (search (parameter_valueless, c.in_ok-name.was, c.in_ok-readonly.was, c.in_ok-end.was, c.in_err-initial.was))

pub returns : goal.returns
returns c = search (parameter_good, c.in_ok-name.was, c.in_ok-readonly.was, c.in_ok-end.was, c.in_ok-initial.was)
