-- `fit::walk::first` meets its contract: the byte after the spaces is the closing bracket or not. Assumes nothing.
use Rattle.fit.proofs.Walks.{first_none, first_some}
use Rattle.fit.proofs.walk.first.Goals as goal

pub returns-then-byte-close : goal.returns-then-byte-close
returns-then-byte-close c = search first_none

pub returns : goal.returns
returns c = search first_some
