-- The promise of `demand_3`. Assumes nothing.
use mathlib.Core.Path.{refl}
use Rattle.history.proofs.Runs as theorem
use Rattle.history.proofs.demand_3.Goals as goal

pub returns : goal.returns
returns c = (refl, theorem.demand_3)
