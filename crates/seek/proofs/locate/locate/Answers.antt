-- `seek::locate::locate` meets its contract. Assumes nothing.
use Rattle.report.proofs.Faults.{accepted_readable}
use Rattle.seek.proofs.Locating.{sought_some, no_module, no_steps, is_located, in_steps}
use Rattle.seek.proofs.locate.locate.Goals as goal

pub find_module-requires : goal.find_module-requires
find_module-requires c = search accepted_readable

pub returns-in_default : goal.returns-in_default
returns-in_default c = (search no_module, search no_steps)

pub located-requires : goal.located-requires
located-requires c = search sought_some

pub returns : goal.returns
returns c = (search is_located, search in_steps)
