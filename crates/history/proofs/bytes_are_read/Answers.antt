-- The promise of `bytes_are_read`. Assumes nothing.
use mathlib.Core.Path.{refl}
use Rattle.history.proofs.Runs as theorem
use Rattle.history.proofs.bytes_are_read.Goals as goal

pub returns : goal.returns
returns c = (refl, theorem.bytes_are_read)
