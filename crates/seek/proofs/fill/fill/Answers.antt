-- `seek::fill::fill` meets its contract. Assumes nothing.
use Rattle.seek.proofs.Seeking.{part_size, part_count}
use Rattle.seek.proofs.Filling.{fill_refused, fill_short, fill_done, fill_accepted}
use Rattle.seek.proofs.fill.fill.Goals as goal

pub returns-then-n-ne0 : goal.returns-then-n-ne0
returns-then-n-ne0 c = search fill_refused

pub returns-then-index-lt-INDEX : goal.returns-then-index-lt-INDEX
returns-then-index-lt-INDEX c = search fill_short

pub slice_bounds-fill_all-end-2 : goal.slice_bounds-fill_all-end-2
slice_bounds-fill_all-end-2 c = search part_count

pub fill_all-requires : goal.fill_all-requires
fill_all-requires c = (search fill_accepted, search part_size)

pub returns : goal.returns
returns c = search fill_done
