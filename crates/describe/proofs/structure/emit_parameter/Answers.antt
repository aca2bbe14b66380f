-- `describe::structure::emit_parameter` meets its contract. Assumes nothing.
use Rattle.describe.proofs.Reported.{parameter_told}
use Rattle.ascii.specs.Text.{bytes}
use Rattle.describe.proofs.structure.emit_parameter.Goals as goal

pub returns : goal.returns
unfolding bytes
returns c = search parameter_told
