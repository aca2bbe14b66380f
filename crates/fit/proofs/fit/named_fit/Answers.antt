-- `fit::fit::named_fit` meets its contract: a name is a member's, or nobody's. Assumes nothing.
use Rattle.fit.proofs.Choices.{named_told}
use Rattle.fit.proofs.fit.named_fit.Goals as goal

pub returns : goal.returns
returns c = search named_told
