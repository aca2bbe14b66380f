-- `table::layout::marked_at` meets its contract. Assumes nothing.
use Rattle.table.proofs.Modules.{marked_absent, marked_bad, marked_good}
use Rattle.table.proofs.layout.marked_at.Goals as goal

pub returns-in_default : goal.returns-in_default
returns-in_default c = search marked_absent

pub returns-in_err-text : goal.returns-in_err-text
returns-in_err-text c = rw c.from_residual.ensures (search (marked_bad, c.in_err-text.was))

pub returns : goal.returns
returns c = search (marked_good, c.in_ok-text.was)
