-- The theorem of printable texts, as the promise of a function. Assumes nothing.
use Rattle.json_text.proofs.Printable.{texts_are_printable}
use mathlib.Core.Path.{refl}
use Rattle.json_text.proofs.texts_are_printable.Goals as goal

pub returns : goal.returns
returns c = (refl, texts_are_printable)
