-- `emit::emit_key` meets its contract. Assumes nothing.
use Rattle.emit.proofs.Pieces.{key_text}
use Rattle.emit.proofs.emit_key.Goals as goal

pub returns : goal.returns
returns c = search key_text
