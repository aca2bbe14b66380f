-- `infos::emit_partial` meets its contract. Assumes nothing.
use Rattle.ascii.specs.Text.{bytes}
use Rattle.infos.proofs.Own.{own_partial}
use Rattle.infos.proofs.emit_partial.Goals as goal

pub returns : goal.returns
unfolding bytes
returns c = search own_partial
