-- `steps::present_names_are_quick` promises the theorem of `Steps`. Assumes nothing.
use mathlib.Core.Path.{refl}
use Rattle.steps.proofs.Steps.{quick_steps}
use Rattle.steps.proofs.present_names_are_quick.Goals as goal

pub returns : goal.returns
returns c = (refl, quick_steps)
