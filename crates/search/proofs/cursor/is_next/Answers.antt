-- `search::cursor::is_next` meets its contract. Assumes nothing.
use Rattle.search.proofs.Lefts.{next_none, next_some}
use Rattle.search.proofs.cursor.is_next.Goals as goal

pub returns-then-c-ne0 : goal.returns-then-c-ne0
returns-then-c-ne0 c = search next_some

pub returns-else-c-ne0 : goal.returns-else-c-ne0
returns-else-c-ne0 c = search next_none
