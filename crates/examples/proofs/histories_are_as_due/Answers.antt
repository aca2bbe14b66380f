-- `examples::histories_are_as_due` promises the theorem of `Histories`. Assumes nothing.
use mathlib.Core.Path.{refl}
use Rattle.examples.proofs.Histories.{histories_are_as_due}
use Rattle.examples.proofs.histories_are_as_due.Goals as goal

pub returns : goal.returns
returns c = (refl, histories_are_as_due)
