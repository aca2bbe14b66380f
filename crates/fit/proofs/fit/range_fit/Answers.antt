-- `fit::fit::range_fit` meets its contract. Assumes nothing.
use Rattle.fit.proofs.Figures.{range_fits, range_error}
use Rattle.fit.proofs.fit.range_fit.Goals as goal

pub returns-then-passes : goal.returns-then-passes
returns-then-passes c = search range_fits

pub returns : goal.returns
returns c = search range_error
