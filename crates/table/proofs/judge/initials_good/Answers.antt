-- `table::judge::initials_good` meets its contract. Assumes nothing.
use Rattle.table.proofs.Whole.{untold, initials_all}
use Rattle.table.proofs.judge.initials_good.Goals as goal

pub returns-in_default : goal.returns-in_default
returns-in_default c = λ t w. search untold

pub returns : goal.returns
returns c = λ t w. search initials_all
