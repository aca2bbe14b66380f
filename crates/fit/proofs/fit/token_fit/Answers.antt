-- `fit::fit::token_fit` meets its contract: each type by its own function. Assumes nothing.
use Rattle.fit.proofs.Figures.{token_double, token_int, token_scaled}
use Rattle.fit.proofs.fit.token_fit.Goals as goal

pub returns-then-k-eq1 : goal.returns-then-k-eq1
returns-then-k-eq1 c = search token_double

pub returns-then-k-eq2 : goal.returns-then-k-eq2
returns-then-k-eq2 c = search token_int

pub returns : goal.returns
returns c = search token_scaled
