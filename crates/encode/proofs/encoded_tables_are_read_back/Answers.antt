-- `encode::encoded_tables_are_read_back` promises the theorem of `Whole`. Assumes nothing.
use mathlib.Core.Path.{refl}
use Rattle.encode.proofs.Whole.{encoded_tables_are_read_back}
use Rattle.encode.proofs.encoded_tables_are_read_back.Goals as goal

pub returns : goal.returns
returns c = (refl, encoded_tables_are_read_back)
