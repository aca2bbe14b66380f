-- `describe::structure::emit_named` meets its contract. Assumes nothing.
use Rattle.describe.proofs.Reported.{key_and_text}
use Rattle.describe.proofs.structure.emit_named.Goals as goal

pub returns : goal.returns
returns c = search key_and_text
