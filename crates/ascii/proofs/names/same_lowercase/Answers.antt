-- `ascii::names::same_lowercase` meets its contract. Assumes nothing.
use Rattle.ascii.proofs.Walk.{told_lowercase}
use Rattle.ascii.proofs.names.same_lowercase.Goals as goal

pub returns : goal.returns
returns c = search told_lowercase
