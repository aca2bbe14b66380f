-- `table::judge::part_is_name` meets its contract. Assumes nothing.
use Rattle.table.specs.Clauses.At.{bytes_of}
use Rattle.table.proofs.judge.part_is_name.Goals as goal

pub returns : goal.returns
unfolding bytes_of
returns c = c.is_name.ensures
