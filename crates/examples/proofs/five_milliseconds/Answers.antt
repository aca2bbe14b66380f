-- `examples::five_milliseconds` promises the theorem of `Examples`. Assumes nothing.
use mathlib.Core.Path.{refl}
use Rattle.examples.proofs.Examples.{five_milliseconds}
use Rattle.examples.proofs.five_milliseconds.Goals as goal

pub returns : goal.returns
returns c = (refl, five_milliseconds)
