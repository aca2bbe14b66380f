-- `sound::always_sound` promises the theorem of `Histories`. Assumes nothing.
use mathlib.Core.Path.{refl}
use Rattle.sound.proofs.Histories.{always_sound}
use Rattle.sound.proofs.always_sound.Goals as goal

pub returns : goal.returns
returns c = (refl, always_sound)
