-- The promise of `counts_are_true`. Assumes nothing.
use mathlib.Core.Path.{refl}
use Rattle.history.proofs.Counts as theorem
use Rattle.history.proofs.counts_are_true.Goals as goal

pub returns : goal.returns
returns c = (refl, theorem.code_counts_are_true)
