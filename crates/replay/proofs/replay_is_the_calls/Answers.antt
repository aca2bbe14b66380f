-- `replay::replay_is_the_calls` meets its contract. Assumes nothing.
use mathlib.Core.Path.{refl}
use Rattle.replay.proofs.Drives.{replay_is_the_calls}
use Rattle.replay.proofs.replay_is_the_calls.Goals as goal

pub returns : goal.returns
returns c = (refl, replay_is_the_calls)
