-- `fit::fit::whole_fit` meets its contract. Assumes nothing.
use Rattle.fit.proofs.Figures.{whole_good, whole_wrong}
use Rattle.fit.proofs.fit.whole_fit.Goals as goal

pub returns-then-is_whole : goal.returns-then-is_whole
returns-then-is_whole c = search whole_good

pub returns : goal.returns
returns c = search whole_wrong
