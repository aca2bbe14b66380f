-- `fit::walk::next` meets its contract: after the value a comma stands or not. Assumes nothing.
use Rattle.fit.proofs.Walks.{next_bad, next_last, next_more}
use Rattle.fit.proofs.walk.next.Goals as goal

pub returns-in_err-e : goal.returns-in_err-e
returns-in_err-e c = rw c.from_residual.ensures (search (next_bad, c.in_err-e.was))

pub returns-then-byte-ne44 : goal.returns-then-byte-ne44
returns-then-byte-ne44 c = search (next_last, c.in_ok-e.was)

pub returns : goal.returns
returns c = search (next_more, c.in_ok-e.was)
