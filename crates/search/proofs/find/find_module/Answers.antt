-- `search::find::find_module` meets its contract. Assumes nothing.
use Rattle.search.proofs.Searches.{find_untold, find_modules}
use Rattle.search.proofs.find.find_module.Goals as goal

pub returns-in_err-h : goal.returns-in_err-h
returns-in_err-h c = rw c.from_residual.ensures (search (find_untold, c.in_err-h.was))

pub returns : goal.returns
returns c = search (find_modules, c.in_ok-h.was)
