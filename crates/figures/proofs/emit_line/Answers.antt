-- `figures::emit_line` meets its contract. Assumes nothing.
use Rattle.figures.proofs.Telling.{line_text}
use Rattle.figures.proofs.emit_line.Goals as goal

pub returns : goal.returns
returns c = search line_text
