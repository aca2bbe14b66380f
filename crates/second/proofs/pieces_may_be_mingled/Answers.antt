-- The promise of `pieces_may_be_mingled`. Assumes nothing.
use mathlib.Core.Path.{refl}
use Rattle.second.proofs.Moves as theorem
use Rattle.second.proofs.pieces_may_be_mingled.Goals as goal

pub returns : goal.returns
returns c = (refl, theorem.pieces_may_be_mingled)
