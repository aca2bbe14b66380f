-- `figures::emit_difference` meets its contract. Assumes nothing.
use Rattle.figures.proofs.Telling.{difference_below, difference_above}
use Rattle.ascii.specs.Text.{bytes}
use Rattle.figures.proofs.emit_difference.Goals as goal

pub returns-then-n-base : goal.returns-then-n-base
unfolding bytes
returns-then-n-base c = search difference_below

pub returns : goal.returns
returns c = search difference_above
