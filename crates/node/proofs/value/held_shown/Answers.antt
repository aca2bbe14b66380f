-- `node::value::held_shown` meets its contract. Assumes nothing.
-- src/value.rt:73:15
-- src/value.rt:73:15
use Rattle.node.proofs.Shows.{held_part, held_error}
use Rattle.node.proofs.value.held_shown.Goals as goal

pub returns-then-error-eq0 : goal.returns-then-error-eq0
returns-then-error-eq0 c = search held_part

pub returns : goal.returns
returns c = search held_error
