-- `base64::sizes_are_of_encodings` promises the theorem of `Encodings`. Assumes nothing.
use mathlib.Core.Path.{refl}
use Rattle.base64_text.proofs.Encodings.{sized_encoding, encoded_sized}
use Rattle.base64_text.proofs.sizes_are_of_encodings.Goals as goal

pub returns : goal.returns
returns c = (refl, record { only = sized_encoding; each = encoded_sized })
