-- `figures::emit_numbers` meets its contract. Assumes nothing.
use Rattle.figures.proofs.Telling.{numbers_none, numbers_some}
use Rattle.ascii.specs.Text.{bytes}
use Rattle.figures.proofs.emit_numbers.Goals as goal

pub returns-then-t-eq0 : goal.returns-then-t-eq0
unfolding bytes
returns-then-t-eq0 c = search numbers_none

pub returns : goal.returns
unfolding bytes
returns c = search numbers_some
