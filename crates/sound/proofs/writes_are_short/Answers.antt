-- `sound::writes_are_short` promises the theorem of `Histories`. Assumes nothing.
use mathlib.Core.Path.{refl}
use Rattle.sound.proofs.Histories.{writes_are_short}
use Rattle.sound.proofs.writes_are_short.Goals as goal

pub returns : goal.returns
returns c = (refl, writes_are_short)
