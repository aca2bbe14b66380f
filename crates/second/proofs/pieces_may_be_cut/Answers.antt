-- The promise of `pieces_may_be_cut`. Assumes nothing.
use mathlib.Core.Path.{refl}
use Rattle.second.proofs.Moves as theorem
use Rattle.second.proofs.pieces_may_be_cut.Goals as goal

pub returns : goal.returns
returns c = (refl, theorem.pieces_may_be_cut)
