-- `encode::accepted_bytes_are_encoded` promises the theorem of `Whole`. Assumes nothing.
use mathlib.Core.Path.{refl}
use Rattle.encode.proofs.Whole.{accepted_bytes_are_encoded}
use Rattle.encode.proofs.accepted_bytes_are_encoded.Goals as goal

pub returns : goal.returns
returns c = (refl, accepted_bytes_are_encoded)
