-- The promise of `histories_are_their_items`. Assumes nothing.
use mathlib.Core.Path.{refl}
use Rattle.second.proofs.Second as theorem
use Rattle.second.proofs.histories_are_their_items.Goals as goal

pub returns : goal.returns
returns c = (refl, theorem.histories_are_their_items)
