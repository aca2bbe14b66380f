-- The theorem of the compact text, as the promise of a function. Assumes nothing.
use Rattle.json_text.proofs.ReadBack.{compact_read_back}
use mathlib.Core.Path.{refl}
use Rattle.json_text.proofs.compact_is_read_back.Goals as goal

pub returns : goal.returns
returns c = (refl, compact_read_back)
