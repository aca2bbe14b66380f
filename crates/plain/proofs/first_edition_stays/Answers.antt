-- `plain::first_edition_stays` promises the theorem of `Editions`. Assumes nothing.
use mathlib.Core.Path.{refl}
use Rattle.plain.proofs.Editions.{first_edition_stays}
use Rattle.plain.proofs.first_edition_stays.Goals as goal

pub returns : goal.returns
returns c = (refl, first_edition_stays)
