-- `describe::structure::emit_text` meets its contract. Assumes nothing.
use Rattle.emit.proofs.Pieces.{both}
use Rattle.describe.proofs.structure.emit_text.Goals as goal

pub returns : goal.returns
returns c = search both
