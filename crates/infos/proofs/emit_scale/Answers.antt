-- `infos::emit_scale` meets its contract. Assumes nothing.
use Rattle.infos.proofs.Infos.{scaled_text}
use Rattle.ascii.specs.Text.{bytes}
use Rattle.infos.proofs.emit_scale.Goals as goal

pub returns : goal.returns
unfolding bytes
returns c = search scaled_text
