-- The promise of `second_histories_are_alike`. Assumes nothing.
use mathlib.Core.Path.{refl}
use Rattle.second.proofs.Second as theorem
use Rattle.second.proofs.second_histories_are_alike.Goals as goal

pub returns : goal.returns
returns c = (refl, theorem.second_histories_are_alike)
