-- `replay::played_as_calls` meets its contract. Assumes nothing.
use mathlib.Core.Path.{refl}
use Rattle.replay.proofs.Calls.{played_as_calls}
use Rattle.replay.proofs.played_as_calls.Goals as goal

pub returns : goal.returns
returns c = (refl, played_as_calls)
