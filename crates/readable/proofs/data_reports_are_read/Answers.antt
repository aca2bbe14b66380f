-- `readable::data_reports_are_read` promises the theorem of `Data`. Assumes nothing.
use mathlib.Core.Path.{refl}
use Rattle.readable.proofs.Data.{data_reports_are_read}
use Rattle.readable.proofs.data_reports_are_read.Goals as goal

pub returns : goal.returns
returns c = (refl, data_reports_are_read)
