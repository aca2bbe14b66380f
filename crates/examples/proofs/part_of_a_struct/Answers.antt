-- `examples::part_of_a_struct` promises the theorem of `Examples`. Assumes nothing.
use mathlib.Core.Path.{refl}
use Rattle.examples.proofs.Examples.{part_of_a_struct}
use Rattle.examples.proofs.part_of_a_struct.Goals as goal

pub returns : goal.returns
returns c = (refl, part_of_a_struct)
