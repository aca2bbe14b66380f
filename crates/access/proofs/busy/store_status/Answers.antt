-- `access::busy::store_status` meets its contract. Assumes nothing.
use Rattle.access.proofs.Statuses.{store_is}
use Rattle.access.proofs.busy.store_status.Goals as goal

pub returns-in-Some : goal.returns-in-Some
returns-in-Some c = search store_is
