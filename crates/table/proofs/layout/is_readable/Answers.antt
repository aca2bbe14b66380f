-- `table::layout::is_readable` meets its contract. Assumes nothing.
use Rattle.table.proofs.Modules.{readable_long, readable_headless, readable_unmodelled, readable_endless, readable_end}
use Rattle.table.proofs.layout.is_readable.Goals as goal

pub returns-then-s-gt-TABLE : goal.returns-then-s-gt-TABLE
returns-then-s-gt-TABLE c = search readable_long

pub returns-in_default : goal.returns-in_default
returns-in_default c = search readable_headless

pub returns-in_default-modules_end : goal.returns-in_default-modules_end
returns-in_default-modules_end c = search readable_unmodelled

pub returns-in_default-mark_end : goal.returns-in_default-mark_end
returns-in_default-mark_end c = search readable_endless

pub returns : goal.returns
returns c = search readable_end
