-- `sound::calls_keep_sound` promises the theorem of `Histories`. Assumes nothing.
use mathlib.Core.Path.{refl}
use Rattle.sound.proofs.Histories.{calls_keep_sound}
use Rattle.sound.proofs.calls_keep_sound.Goals as goal

pub returns : goal.returns
returns c = (refl, calls_keep_sound)
