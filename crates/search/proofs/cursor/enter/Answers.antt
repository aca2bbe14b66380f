-- `search::cursor::enter` meets its contract. Assumes nothing.
use Rattle.search.proofs.Lefts.{enter_bad, enter_module}
use Rattle.search.proofs.cursor.enter.Goals as goal

pub returns-in_default : goal.returns-in_default
returns-in_default c = search enter_bad

pub returns : goal.returns
returns c = search enter_module
