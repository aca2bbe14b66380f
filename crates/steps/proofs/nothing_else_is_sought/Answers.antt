-- `steps::nothing_else_is_sought` promises the theorem of `Steps`. Assumes nothing.
use mathlib.Core.Path.{refl}
use Rattle.steps.proofs.Steps.{nothing_else_is_sought}
use Rattle.steps.proofs.nothing_else_is_sought.Goals as goal

pub returns : goal.returns
returns c = (refl, nothing_else_is_sought)
