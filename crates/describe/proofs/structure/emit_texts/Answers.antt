-- `describe::structure::emit_texts` meets its contract. Assumes nothing.
use Rattle.describe.proofs.Reported.{texts_told}
use Rattle.ascii.specs.Text.{bytes}
use Rattle.describe.proofs.structure.emit_texts.Goals as goal

pub returns : goal.returns
unfolding bytes
returns c = search texts_told
