-- `datainfo::layout::counted_end` meets its contract. Assumes nothing.
use Rattle.datainfo.proofs.Ends.{counted_none, counted_some}
use Rattle.datainfo.proofs.layout.counted_end.Goals as goal

pub returns-then-s-at : goal.returns-then-s-at
returns-then-s-at c = search counted_none

pub returns : goal.returns
returns c = search counted_some
