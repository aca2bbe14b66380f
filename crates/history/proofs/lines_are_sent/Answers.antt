-- The promise of `lines_are_sent`. Assumes nothing.
use mathlib.Core.Path.{refl}
use Rattle.history.proofs.Sent.{lines_are_sent}
use Rattle.history.proofs.lines_are_sent.Goals as goal

pub returns : goal.returns
returns c = (refl, lines_are_sent)
