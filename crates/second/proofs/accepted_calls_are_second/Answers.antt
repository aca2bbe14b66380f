-- The promise of `accepted_calls_are_second`. Assumes nothing.
use mathlib.Core.Path.{refl}
use Rattle.second.proofs.Accepted as theorem
use Rattle.second.proofs.accepted_calls_are_second.Goals as goal

pub returns : goal.returns
returns c = (refl, theorem.accepted_calls_are_second)
