-- `update::wants` meets its contract. Assumes nothing.
use Rattle.update.proofs.Sendings.{wants_module}
use Rattle.update.proofs.wants.Goals as goal

pub returns-in-Module : goal.returns-in-Module
returns-in-Module c = search wants_module
