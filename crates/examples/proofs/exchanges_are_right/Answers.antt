-- `examples::exchanges_are_right` promises the theorem of `Examples`. Assumes nothing.
use mathlib.Core.Path.{refl}
use Rattle.examples.proofs.Examples.{exchanges_are_right}
use Rattle.examples.proofs.exchanges_are_right.Goals as goal

pub returns : goal.returns
returns c = (refl, exchanges_are_right)
