-- `describe::structure::emit_command` meets its contract. Assumes nothing.
use Rattle.describe.proofs.Reported.{command_told}
use Rattle.ascii.specs.Text.{bytes}
use Rattle.describe.proofs.structure.emit_command.Goals as goal

pub returns : goal.returns
unfolding bytes
returns c = search command_told
