-- `fit::fit::enum_fit` meets its contract. Assumes nothing.
use Rattle.fit.proofs.Figures.{enum_wrong, enum_whole}
use Rattle.fit.proofs.fit.enum_fit.Goals as goal

pub returns-then-is_whole : goal.returns-then-is_whole
returns-then-is_whole c = search enum_whole

pub returns : goal.returns
returns c = search enum_wrong
