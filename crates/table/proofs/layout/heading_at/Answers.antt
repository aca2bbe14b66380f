-- `table::layout::heading_at` meets its contract. Assumes nothing.
use Rattle.table.proofs.Modules.{heading_untold, heading_read, heading_bad}
use Rattle.table.proofs.layout.heading_at.Goals as goal

pub returns-in_err-name : goal.returns-in_err-name
returns-in_err-name c = rw c.from_residual.ensures (search (heading_untold, c.in_err-name.was))

pub returns-in_err-note : goal.returns-in_err-note
returns-in_err-note c = rw c.from_residual-in_err-note.ensures (search (heading_bad, c.in_ok-name.was, c.in_err-note.was))

pub returns : goal.returns
returns c = search (heading_read, c.in_ok-name.was, c.in_ok-note.was)
