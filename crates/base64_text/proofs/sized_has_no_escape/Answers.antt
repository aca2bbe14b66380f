-- `base64::sized_has_no_escape` promises the theorem of `Encodings`. Assumes nothing.
use mathlib.Core.Path.{refl}
use Rattle.base64_text.proofs.Encodings.{sized_plain}
use Rattle.base64_text.proofs.sized_has_no_escape.Goals as goal

pub returns : goal.returns
returns c = (refl, sized_plain)
