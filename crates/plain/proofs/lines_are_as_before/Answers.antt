-- `plain::lines_are_as_before` promises the theorem of `Notes`. Assumes nothing.
use mathlib.Core.Path.{refl}
use Rattle.plain.proofs.Notes.{lines_are_as_before}
use Rattle.plain.proofs.lines_are_as_before.Goals as goal

pub returns : goal.returns
returns c = (refl, lines_are_as_before)
