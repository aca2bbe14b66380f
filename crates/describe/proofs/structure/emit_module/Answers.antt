-- `describe::structure::emit_module` meets its contract. Assumes nothing.
use Rattle.describe.proofs.Reported.{module_bad, module_told}
use Rattle.ascii.specs.Text.{bytes}
use Rattle.describe.proofs.structure.emit_module.Goals as goal

pub returns-in_default : goal.returns-in_default
returns-in_default c = search module_bad

pub returns : goal.returns
unfolding bytes
returns c = search module_told
