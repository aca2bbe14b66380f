-- `examples::who_talks` promises the theorem of `Examples`. Assumes nothing.
use mathlib.Core.Path.{refl}
use Rattle.examples.proofs.Examples.{who_talks}
use Rattle.examples.proofs.who_talks.Goals as goal

pub returns : goal.returns
returns c = (refl, who_talks)
