-- The promise of `ascii::names::pairs_are_counted`. Assumes nothing.
use mathlib.Core.Path.{refl}
use Rattle.ascii.proofs.Counts.{pairs_are_counted}
use Rattle.ascii.proofs.names.pairs_are_counted.Goals as goal

pub returns : goal.returns
returns c = (refl, pairs_are_counted)
