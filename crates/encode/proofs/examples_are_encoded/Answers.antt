-- `encode::examples_are_encoded` promises the theorem of `Examples`. Assumes nothing.
use mathlib.Core.Path.{refl}
use Rattle.encode.proofs.Examples.{examples_are_encoded}
use Rattle.encode.proofs.examples_are_encoded.Goals as goal

pub returns : goal.returns
returns c = (refl, examples_are_encoded)
