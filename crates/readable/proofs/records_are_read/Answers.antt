-- `readable::records_are_read` promises the theorem of `Records`. Assumes nothing.
use mathlib.Core.Path.{refl}
use Rattle.readable.proofs.Records.{records_are_read}
use Rattle.readable.proofs.records_are_read.Goals as goal

pub returns : goal.returns
returns c = (refl, records_are_read)
