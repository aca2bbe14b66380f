-- `examples::ramps` promises the theorem of `Examples`. Assumes nothing.
use mathlib.Core.Path.{refl}
use Rattle.examples.proofs.Examples.{ramps}
use Rattle.examples.proofs.ramps.Goals as goal

pub returns : goal.returns
returns c = (refl, ramps)
