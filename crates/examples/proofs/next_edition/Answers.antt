-- `examples::next_edition` promises the theorem of `Examples`. Assumes nothing.
use mathlib.Core.Path.{refl}
use Rattle.examples.proofs.Examples.{next_edition}
use Rattle.examples.proofs.next_edition.Goals as goal

pub returns : goal.returns
returns c = (refl, next_edition)
