-- `infos::emit_closing` meets its contract. Assumes nothing.
use Rattle.infos.proofs.Infos.{closing_tuple, closing_partial, closing_other}
use Rattle.ascii.specs.Text.{bytes}
use Rattle.infos.proofs.emit_closing.Goals as goal

pub returns-in-7 : goal.returns-in-7
unfolding bytes
returns-in-7 c = search closing_tuple

pub returns-in-11 : goal.returns-in-11
unfolding bytes
returns-in-11 c = search closing_partial

pub returns-in_default : goal.returns-in_default
unfolding bytes
returns-in_default c = search closing_other
