-- `infos::emit_array_limits` meets its contract. Assumes nothing.
use Rattle.infos.proofs.Infos.{array_limits_lem}
use Rattle.ascii.specs.Text.{bytes}
use Rattle.infos.proofs.emit_array_limits.Goals as goal

pub returns : goal.returns
unfolding bytes
returns c = search array_limits_lem
