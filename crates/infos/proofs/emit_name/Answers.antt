-- `infos::emit_name` meets its contract. Assumes nothing.
use Rattle.emit.proofs.Pieces.{key_of}
use Rattle.infos.proofs.emit_name.Goals as goal

pub returns : goal.returns
returns c = search key_of
