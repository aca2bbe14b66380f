-- `seek::walk::begin` meets its contract. Assumes nothing.
use Rattle.seek.proofs.Walking.{walk_begins}
use Rattle.seek.proofs.walk.begin.Goals as goal

pub returns : goal.returns
returns c = search walk_begins
