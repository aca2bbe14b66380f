-- `fit::object::each_once` meets its contract. Assumes nothing.
use Rattle.fit.proofs.Objects.{each_no, each_yes}
use Rattle.fit.proofs.object.each_once.Goals as goal

pub returns-then-names_once : goal.returns-then-names_once
returns-then-names_once c = search each_yes

pub returns-else-names_once : goal.returns-else-names_once
returns-else-names_once c = rw c.if-names_once.false (search each_no)
