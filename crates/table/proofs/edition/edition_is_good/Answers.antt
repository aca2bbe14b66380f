-- `table::edition::edition_is_good` meets its contract. Assumes nothing.
use Rattle.table.specs.Clauses.At.{bytes_of}
use Rattle.table.proofs.Editions.{unedited_good, edited_good}
use Rattle.table.proofs.edition.edition_is_good.Goals as goal

pub returns-in-Some : goal.returns-in-Some
unfolding bytes_of
returns-in-Some c = search edited_good

pub returns-in-None : goal.returns-in-None
returns-in-None c = search unedited_good
