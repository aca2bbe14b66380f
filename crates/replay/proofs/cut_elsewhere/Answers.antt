-- `replay::cut_elsewhere` meets its contract. Assumes nothing.
use mathlib.Core.Path.{refl}
use Rattle.replay.proofs.Drives.{cut_elsewhere}
use Rattle.replay.proofs.cut_elsewhere.Goals as goal

pub returns : goal.returns
returns c = (refl, cut_elsewhere)
