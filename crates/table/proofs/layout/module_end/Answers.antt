-- `table::layout::module_end` meets its contract. Assumes nothing.
use Rattle.table.proofs.Modules.{module_bad, module_ends}
use Rattle.table.proofs.layout.module_end.Goals as goal

pub returns-in_err-m : goal.returns-in_err-m
returns-in_err-m c = rw c.from_residual.ensures (search (module_bad, c.in_err-m.was))

pub returns : goal.returns
returns c = search (module_ends, c.in_ok-m.was)
