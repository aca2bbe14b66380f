-- `summary::figured::emit_figure` meets its contract. Assumes nothing.
use Rattle.summary.proofs.Figuring.{tells}
use borrow.Author.Rules.{rules}
use Rattle.summary.proofs.figured.emit_figure.Goals as goal

pub returns : goal.returns
returns c = search tells
