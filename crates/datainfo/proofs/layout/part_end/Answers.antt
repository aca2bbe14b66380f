-- `datainfo::layout::part_end` meets its contract. Assumes nothing.
use Rattle.datainfo.proofs.Ends.{part_good, part_bad}
use Rattle.datainfo.proofs.layout.part_end.Goals as goal

pub returns-then-n-s : goal.returns-then-n-s
returns-then-n-s c = search part_good

pub returns-else-n-s : goal.returns-else-n-s
returns-else-n-s c = search part_bad
