-- The theorem of readable trees, as the promise of a function. Assumes nothing.
use Rattle.json_text.proofs.ReadBack.{readable_trees}
use mathlib.Core.Path.{refl}
use Rattle.json_text.proofs.readable_trees.Goals as goal

pub returns : goal.returns
returns c = (refl, readable_trees)
