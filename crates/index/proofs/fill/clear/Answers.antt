-- `index::fill::clear` meets its contract. Assumes nothing.
use mathlib.Core.Path.{ap, ◌∙◌}
use lib.ListN.{replicate}
use Rattle.index.specs.Index.{empty}
use Rattle.index.proofs.fill.clear.Goals as goal

pub returns : goal.returns
unfolding empty
returns c = c.fill.ensures.after (λ y e. e) ∙ ap (λ n. replicate n 255) c.requires
