-- `table::judge::part_is_text` meets its contract. Assumes nothing.
use Rattle.table.specs.Clauses.At.{bytes_of}
use Rattle.table.proofs.judge.part_is_text.Goals as goal

pub returns : goal.returns
unfolding bytes_of
returns c = c.is_text.ensures
