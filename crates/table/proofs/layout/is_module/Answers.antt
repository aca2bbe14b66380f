-- `table::layout::is_module` meets its contract. Assumes nothing.
use Rattle.table.proofs.Modules.{module_begins}
use Rattle.table.proofs.layout.is_module.Goals as goal

pub returns : goal.returns
returns c = search module_begins
