-- `figures::no_figures` meets its contract. Assumes nothing.
use mathlib.Core.Path.{refl}
use Rattle.figures.proofs.Keeping.{none_is, none_bounded}
use Rattle.figures.proofs.no_figures.Goals as goal

pub returns : goal.returns
returns c = rw (none_is c.default.result c.default.ensures) (refl, none_bounded)
