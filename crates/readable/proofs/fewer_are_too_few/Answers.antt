-- `readable::fewer_are_too_few` promises the theorem of `Deepest`. Assumes nothing.
use mathlib.Core.Path.{refl}
use Rattle.readable.proofs.Deepest.{fewer_are_too_few}
use Rattle.readable.proofs.fewer_are_too_few.Goals as goal

pub returns : goal.returns
returns c = (refl, fewer_are_too_few)
