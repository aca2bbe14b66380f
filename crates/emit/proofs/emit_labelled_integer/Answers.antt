-- `emit::emit_labelled_integer` meets its contract. Assumes nothing.
use Rattle.emit.proofs.Pieces.{labelled_integer}
use Rattle.emit.proofs.emit_labelled_integer.Goals as goal

pub returns : goal.returns
returns c = search labelled_integer
