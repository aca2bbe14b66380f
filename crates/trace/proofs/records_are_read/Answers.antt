-- `trace::records_are_read` meets its contract. Assumes nothing.
use mathlib.Core.Path.{refl}
use Rattle.trace.proofs.Written.{records_are_read}
use Rattle.trace.proofs.records_are_read.Goals as goal

pub returns : goal.returns
returns c = (refl, records_are_read)
