-- `report::notes_are_gone` promises the theorem of `Notes`. Assumes nothing.
use mathlib.Core.Path.{refl}
use Rattle.report.proofs.Notes.{notes_are_gone}
use Rattle.report.proofs.notes_are_gone.Goals as goal

pub returns : goal.returns
returns c = (refl, notes_are_gone)
