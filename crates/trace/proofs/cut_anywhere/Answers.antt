-- `trace::cut_anywhere` meets its contract. Assumes nothing.
use mathlib.Core.Path.{refl}
use Rattle.trace.proofs.Readings.{cut_anywhere}
use Rattle.trace.proofs.cut_anywhere.Goals as goal

pub returns : goal.returns
returns c = (refl, cut_anywhere)
