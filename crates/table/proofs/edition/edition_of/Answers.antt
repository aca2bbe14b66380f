-- `table::edition::edition_of` meets its contract. Assumes nothing.
use Rattle.table.proofs.Editions.{edition_unread, edition_read}
use Rattle.table.proofs.edition.edition_of.Goals as goal

pub returns-in_err-head_at : goal.returns-in_err-head_at
returns-in_err-head_at c = rw c.from_residual.ensures (search (edition_unread, c.in_err-head_at.was))

pub returns : goal.returns
returns c = search (edition_read, c.in_ok-head_at.was)
