-- `readable::structure_reports_are_read` promises the theorem of `Structure`. Assumes nothing.
use mathlib.Core.Path.{refl}
use Rattle.readable.proofs.Structure.{structure_reports_are_read}
use Rattle.readable.proofs.structure_reports_are_read.Goals as goal

pub returns : goal.returns
returns c = (refl, structure_reports_are_read)
