-- `table::layout::argument_end` meets its contract. Assumes nothing.
use Rattle.table.proofs.Accessibles.{argument_none, argument_some}
use Rattle.table.proofs.layout.argument_end.Goals as goal

pub returns-then-has : goal.returns-then-has
returns-then-has c = search argument_some

pub returns : goal.returns
returns c = search argument_none
