-- `table::judge::part_is_stored` meets its contract. Assumes nothing.
use Rattle.table.specs.Clauses.At.{bytes_of}
use Rattle.table.proofs.judge.part_is_stored.Goals as goal

pub returns : goal.returns
unfolding bytes_of
returns c = λ d x e. c.is_stored.ensures.is e
