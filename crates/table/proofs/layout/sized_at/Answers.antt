-- `table::layout::sized_at` meets its contract. Assumes nothing.
use Rattle.table.proofs.Records.{sized_short, sized_long, sized_good}
use Rattle.table.proofs.layout.sized_at.Goals as goal

pub returns-in_err-n : goal.returns-in_err-n
returns-in_err-n c = rw c.from_residual.ensures (search (sized_short, c.in_err-n.was))

pub returns-then-s-from : goal.returns-then-s-from
returns-then-s-from c = search (sized_long, c.in_ok-n.was)

pub returns : goal.returns
returns c = search (sized_good, c.in_ok-n.was)
