-- `search::find::module_count` meets its contract. Assumes nothing.
use Rattle.search.proofs.Searches.{count_untold, count_modules}
use Rattle.search.proofs.find.module_count.Goals as goal

pub returns-in_default : goal.returns-in_default
returns-in_default c = search count_untold

pub returns : goal.returns
returns c = search count_modules
