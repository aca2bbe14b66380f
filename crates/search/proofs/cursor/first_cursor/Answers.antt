-- `search::cursor::first_cursor` meets its contract. Assumes nothing.
use Rattle.search.proofs.Lefts.{first_bad, first_good}
use Rattle.search.proofs.cursor.first_cursor.Goals as goal

pub returns-in_default : goal.returns-in_default
returns-in_default c = search first_bad

pub returns : goal.returns
returns c = search first_good
