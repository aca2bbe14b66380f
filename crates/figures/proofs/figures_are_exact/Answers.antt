-- `figures::figures_are_exact` meets its contract. Assumes nothing.
use mathlib.Core.Path.{refl}
use Rattle.figures.proofs.Tallying.{figures_are_exact}
use Rattle.figures.proofs.figures_are_exact.Goals as goal

pub returns : goal.returns
returns c = (refl, figures_are_exact)
