-- `line::named::is_edited` meets its contract. Assumes nothing.
use Rattle.line.proofs.Sought.{edited, unedited}
use Rattle.line.proofs.named.is_edited.Goals as goal

pub returns-in-Some : goal.returns-in-Some
returns-in-Some c = search edited

pub returns-in-None : goal.returns-in-None
returns-in-None c = search unedited
