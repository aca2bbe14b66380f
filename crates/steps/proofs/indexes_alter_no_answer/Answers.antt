-- `steps::indexes_alter_no_answer` promises the theorem of `Steps`. Assumes nothing.
use mathlib.Core.Path.{refl}
use Rattle.steps.proofs.Steps.{indexes_alter_no_answer}
use Rattle.steps.proofs.indexes_alter_no_answer.Goals as goal

pub returns : goal.returns
returns c = (refl, indexes_alter_no_answer)
