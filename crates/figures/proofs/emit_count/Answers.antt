-- `figures::emit_count` meets its contract. Assumes nothing.
use Rattle.figures.proofs.Telling.{count_text_lem}
use Rattle.ascii.specs.Text.{bytes}
use Rattle.figures.proofs.emit_count.Goals as goal

pub returns : goal.returns
unfolding bytes
returns c = search count_text_lem
