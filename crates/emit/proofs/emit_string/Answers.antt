-- `emit::emit_string` meets its contract. Assumes nothing.
use Rattle.emit.proofs.Pieces.{string_text}
use Rattle.emit.proofs.emit_string.Goals as goal

pub returns : goal.returns
returns c = search string_text
