-- `script::operation::number_at` meets its contract. Assumes nothing.
use Rattle.script.proofs.Head.{number_short, number_read}
use Rattle.script.proofs.operation.number_at.Goals as goal

pub returns-in-Some : goal.returns-in-Some
returns-in-Some c = search number_read

pub returns-in-None : goal.returns-in-None
returns-in-None c = search number_short
