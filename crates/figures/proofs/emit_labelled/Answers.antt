-- `figures::emit_labelled` meets its contract. Assumes nothing.
use Rattle.emit.proofs.Pieces.{both}
use Rattle.figures.proofs.emit_labelled.Goals as goal

pub returns : goal.returns
returns c = search both
