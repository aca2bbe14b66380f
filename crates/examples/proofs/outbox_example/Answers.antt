-- `examples::outbox_example` promises the theorem of `Examples`. Assumes nothing.
use mathlib.Core.Path.{refl}
use Rattle.examples.proofs.Examples.{outbox_example}
use Rattle.examples.proofs.outbox_example.Goals as goal

pub returns : goal.returns
returns c = (refl, outbox_example)
