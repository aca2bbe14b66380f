-- `figures::noted` meets its contract. Assumes nothing.
use Rattle.figures.proofs.Keeping.{noted_over, noted_one, noted_more}
use Rattle.figures.proofs.noted.Goals as goal

pub returns-then-t-ge-FULL : goal.returns-then-t-ge-FULL
returns-then-t-ge-FULL c = search noted_over

pub returns-then-t-eq0 : goal.returns-then-t-eq0
returns-then-t-eq0 c = search noted_one

pub returns : goal.returns
returns c = search noted_more
