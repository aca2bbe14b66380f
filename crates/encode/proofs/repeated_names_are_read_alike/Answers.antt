-- `encode::repeated_names_are_read_alike` promises the theorem of `Examples`. Assumes nothing.
use mathlib.Core.Path.{refl}
use Rattle.encode.proofs.Examples.{repeated_names_are_read_alike}
use Rattle.encode.proofs.repeated_names_are_read_alike.Goals as goal

pub returns : goal.returns
returns c = (refl, repeated_names_are_read_alike)
