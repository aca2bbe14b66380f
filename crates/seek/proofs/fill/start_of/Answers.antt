-- `seek::fill::start_of` meets its contract. Assumes nothing.
use Rattle.table.specs.Clauses.At.{bytes_of}
use borrow.Author.Rules.{rules}
use Rattle.seek.proofs.fill.start_of.Goals as goal

pub returns : goal.returns
unfolding bytes_of
returns c = search rules
