-- `node::value::part_shown` meets its contract. Assumes nothing.
use Rattle.node.proofs.Shows.{part_initial, part_stored}
use Rattle.node.proofs.value.part_shown.Goals as goal

pub returns-then-size-eq0 : goal.returns-then-size-eq0
returns-then-size-eq0 c = search part_initial

pub returns : goal.returns
returns c = search part_stored
