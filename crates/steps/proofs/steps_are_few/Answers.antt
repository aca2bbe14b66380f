-- `steps::steps_are_few` promises the theorem of `Steps`. Assumes nothing.
use mathlib.Core.Path.{refl}
use Rattle.steps.proofs.Steps.{few_steps}
use Rattle.steps.proofs.steps_are_few.Goals as goal

pub returns : goal.returns
returns c = (refl, few_steps)
