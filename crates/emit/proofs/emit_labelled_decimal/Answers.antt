-- `emit::emit_labelled_decimal` meets its contract. Assumes nothing.
use Rattle.emit.proofs.Pieces.{both}
use Rattle.emit.proofs.emit_labelled_decimal.Goals as goal

pub returns : goal.returns
returns c = search both
