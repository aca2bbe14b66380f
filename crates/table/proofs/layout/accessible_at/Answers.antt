-- `table::layout::accessible_at` meets its contract. Assumes nothing.
use Rattle.table.proofs.Accessibles.{accessible_parameter, accessible_command}
use Rattle.table.proofs.layout.accessible_at.Goals as goal

pub returns-then-is_mark : goal.returns-then-is_mark
returns-then-is_mark c = search accessible_parameter

pub returns : goal.returns
returns c = search accessible_command
