-- `search::find::are_named` meets its contract. Assumes nothing.
use Rattle.search.proofs.Finds.{named_not, named_so}
use Rattle.search.proofs.find.are_named.Goals as goal

pub returns-then-part_is : goal.returns-then-part_is
returns-then-part_is c = search named_so

pub returns-else-part_is : goal.returns-else-part_is
returns-else-part_is c = search named_not
