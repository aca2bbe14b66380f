-- `table::edition::is_good_text` meets its contract. Assumes nothing.
use Rattle.table.proofs.Editions.{text_begins, text_not}
use Rattle.table.proofs.edition.is_good_text.Goals as goal

pub returns-then-is_text : goal.returns-then-is_text
returns-then-is_text c = search text_begins

pub returns-else-is_text : goal.returns-else-is_text
returns-else-is_text c = search text_not
