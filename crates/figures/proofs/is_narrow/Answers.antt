-- `figures::is_narrow` meets its contract. Assumes nothing.
use Rattle.figures.proofs.Reading.{narrow_no, narrow_yes}
use Rattle.figures.proofs.is_narrow.Goals as goal

pub returns-then-from-lo : goal.returns-then-from-lo
returns-then-from-lo c = search narrow_yes

pub returns-else-from-lo : goal.returns-else-from-lo
returns-else-from-lo c = search narrow_no
