-- `table::judge::parts_differ` meets its contract. Assumes nothing.
use Rattle.table.proofs.Named.{differ}
use Rattle.table.specs.Clauses.At.{bytes_of}
use Rattle.table.proofs.judge.parts_differ.Goals as goal

pub returns : goal.returns
unfolding bytes_of
returns c = differ _ _ _ c.same_lowercase.ensures
