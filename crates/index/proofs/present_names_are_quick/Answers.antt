-- The promise of `present_names_are_quick`. Assumes nothing.
use mathlib.Core.Path.{refl}
use Rattle.index.proofs.Accepted as theorem
use Rattle.index.proofs.present_names_are_quick.Goals as goal

pub returns : goal.returns
returns c = (refl, theorem.present_names_are_quick)
