-- `line::named::is_built` meets its contract. Assumes nothing.
use Rattle.line.proofs.Sought.{built_check}
use Rattle.line.proofs.named.is_built.Goals as goal

pub returns-in-Check : goal.returns-in-Check
returns-in-Check c = search built_check
