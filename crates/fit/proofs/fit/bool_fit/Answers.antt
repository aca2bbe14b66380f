-- `fit::fit::bool_fit` meets its contract: a boolean is known by its first byte. Assumes nothing.
use Rattle.fit.proofs.Plain.{bool_true, bool_false, bool_other}
use Rattle.fit.proofs.fit.bool_fit.Goals as goal

pub returns-then-b-eq116 : goal.returns-then-b-eq116
returns-then-b-eq116 c = search bool_true

pub returns-then-b-eq102 : goal.returns-then-b-eq102
returns-then-b-eq102 c = search bool_false

pub returns : goal.returns
returns c = search bool_other
