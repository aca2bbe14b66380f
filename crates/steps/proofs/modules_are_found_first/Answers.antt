-- `steps::modules_are_found_first` promises the theorem of `Steps`. Assumes nothing.
use mathlib.Core.Path.{refl}
use Rattle.steps.proofs.Steps.{modules_are_found_first}
use Rattle.steps.proofs.modules_are_found_first.Goals as goal

pub returns : goal.returns
returns c = (refl, modules_are_found_first)
