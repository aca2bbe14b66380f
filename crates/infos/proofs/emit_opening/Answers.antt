-- `infos::emit_opening` meets its contract. Assumes nothing.
use Rattle.infos.proofs.Infos.{opening_enum, opening_tuple, opening_struct}
use Rattle.ascii.specs.Text.{bytes}
use Rattle.infos.proofs.emit_opening.Goals as goal

pub returns-in-4 : goal.returns-in-4
unfolding bytes
returns-in-4 c = search opening_enum

pub returns-in-7 : goal.returns-in-7
unfolding bytes
returns-in-7 c = search opening_tuple

pub returns-in_default : goal.returns-in_default
unfolding bytes
returns-in_default c = search opening_struct
