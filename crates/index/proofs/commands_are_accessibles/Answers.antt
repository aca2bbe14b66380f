-- The promise of `commands_are_accessibles`. Assumes nothing.
use mathlib.Core.Path.{refl}
use Rattle.index.proofs.Accepted as theorem
use Rattle.index.proofs.commands_are_accessibles.Goals as goal

pub returns : goal.returns
returns c = (refl, theorem.commands_are_accessibles)
