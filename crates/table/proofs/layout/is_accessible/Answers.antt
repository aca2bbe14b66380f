-- `table::layout::is_accessible` meets its contract. Assumes nothing.
use Rattle.table.proofs.Accessibles.{begins_parameter, begins_command}
use mathlib.Core.Path.{◌∙◌}
use Rattle.table.proofs.layout.is_accessible.Goals as goal

pub returns-then-is_mark : goal.returns-then-is_mark
returns-then-is_mark c = c.if-is_mark.true ∙ begins_parameter c.args.s.now c.args.at _ c.is_mark.ensures c.if-is_mark.true

pub returns-else-is_mark : goal.returns-else-is_mark
returns-else-is_mark c = search begins_command
