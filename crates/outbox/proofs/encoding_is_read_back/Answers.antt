-- The promise is the theorem. Assumes nothing.
use mathlib.Core.Path.{refl}
use Rattle.outbox.proofs.Records.{encoding_is_read_back}
use Rattle.outbox.proofs.encoding_is_read_back.Goals as goal

pub returns : goal.returns
returns c = (refl, encoding_is_read_back)
