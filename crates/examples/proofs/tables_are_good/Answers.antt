-- `examples::tables_are_good` promises the theorem of `Examples`. Assumes nothing.
use mathlib.Core.Path.{refl}
use Rattle.examples.proofs.Examples.{tables_are_good}
use Rattle.examples.proofs.tables_are_good.Goals as goal

pub returns : goal.returns
returns c = (refl, tables_are_good)
