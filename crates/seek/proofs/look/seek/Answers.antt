-- `seek::look::seek` meets its contract. Assumes nothing.
use Rattle.seek.proofs.Seeking.{part_size, part_count, sought_alone, sought_with}
use borrow.Author.Rules.{rules}
use Rattle.seek.proofs.look.seek.Goals as goal

pub returns-then-index-lt-INDEX : goal.returns-then-index-lt-INDEX
returns-then-index-lt-INDEX c = search sought_alone

pub slice_bounds-search-end : goal.slice_bounds-search-end
slice_bounds-search-end c = search part_count

pub search-requires : goal.search-requires
search-requires c = (search rules, search part_size)

pub returns : goal.returns
returns c = search sought_with
