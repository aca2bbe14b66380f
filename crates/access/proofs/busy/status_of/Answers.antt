-- `access::busy::status_of` meets its contract. Assumes nothing.
use Rattle.ascii.specs.Text.{bytes}
use Rattle.report.proofs.Faults.{accepted_readable}
use Rattle.access.proofs.Statuses.{other_stays, none_stays, status_found}
use Rattle.access.proofs.busy.status_of.Goals as goal

pub returns-then-not-same : goal.returns-then-not-same
unfolding bytes
returns-then-not-same c = search other_stays

pub find_parameter-requires : goal.find_parameter-requires
find_parameter-requires c = search accepted_readable

pub returns-in_err-k : goal.returns-in_err-k
unfolding bytes
returns-in_err-k c = rw c.from_residual.ensures (search (none_stays, c.in_err-k.was))

pub returns : goal.returns
unfolding bytes
returns c = search (status_found, c.in_ok-k.was)
