-- `infos::emit_number` meets its contract. Assumes nothing.
use Rattle.infos.proofs.Infos.{number_none, number_told}
use Rattle.infos.proofs.emit_number.Goals as goal

pub returns-in_default : goal.returns-in_default
returns-in_default c = search number_none

pub returns : goal.returns
returns c = search number_told
