-- `summary::text_is_the_replays` meets its contract. Assumes nothing.
use mathlib.Core.Path.{refl}
use Rattle.summary.proofs.Whole.{text_is_the_replays}
use Rattle.summary.proofs.text_is_the_replays.Goals as goal

pub returns : goal.returns
returns c = (refl, text_is_the_replays)
