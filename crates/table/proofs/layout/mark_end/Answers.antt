-- `table::layout::mark_end` meets its contract. Assumes nothing.
use Rattle.table.proofs.Records.{mark_past, mark_missing}
use Rattle.table.proofs.layout.mark_end.Goals as goal

pub returns-then-is_mark : goal.returns-then-is_mark
returns-then-is_mark c = search mark_past

pub returns : goal.returns
returns c = search mark_missing
