-- `table::layout::is_mark` meets its contract. Assumes nothing.
use Rattle.table.proofs.Records.{rest_begins}
use mathlib.Core.Path.{◌∙◌}
use Rattle.table.proofs.layout.is_mark.Goals as goal

pub returns : goal.returns
returns c = c.starts_with.ensures.value ∙ rest_begins c.args.s.now c.args.at _
