-- `table::layout::head_at` meets its contract. Assumes nothing.
use Rattle.table.proofs.Modules.{head_bad, head_read, head_unedited}
use Rattle.table.proofs.layout.head_at.Goals as goal

pub returns-in_err-id : goal.returns-in_err-id
returns-in_err-id c = rw c.from_residual.ensures (search (head_bad, c.in_err-id.was))

pub returns-in_err-edition : goal.returns-in_err-edition
returns-in_err-edition c = rw c.from_residual-in_err-edition.ensures (search (head_unedited, c.in_ok-id.was, c.in_err-edition.was))

pub returns : goal.returns
returns c = search (head_read, c.in_ok-id.was, c.in_ok-edition.was)
