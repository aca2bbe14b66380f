-- `access::busy::put_status` meets its contract. Assumes nothing.
use native.Mathlib.Omega.{arith}
use Rattle.ascii.specs.Text.{bytes}
use Rattle.access.proofs.Statuses.{home_low_lem, told_room, told_put, told_none}
use Rattle.access.proofs.busy.put_status.Goals as goal

pub put_updates_to-requires : goal.put_updates_to-requires
unfolding bytes
put_updates_to-requires c = (search home_low_lem, (search told_room, omega arith))

pub returns-in-None : goal.returns-in-None
returns-in-None c = search told_none

pub returns-in-Some : goal.returns-in-Some
unfolding bytes
returns-in-Some c = search told_put
