-- The promise of `counts_are_true`. Assumes nothing.
use mathlib.Core.Path.{refl}
use Rattle.second.proofs.Counts as theorem
use Rattle.second.proofs.counts_are_true.Goals as goal

pub returns : goal.returns
returns c = (refl, theorem.counts_are_true)
