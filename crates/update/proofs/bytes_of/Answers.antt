-- `update::bytes_of` meets its contract. Assumes nothing.
use mathlib.Core.Path.{refl}
use Rattle.table.specs.Clauses.At.{bytes_of}
use Rattle.update.proofs.bytes_of.Goals as goal

pub returns : goal.returns
unfolding bytes_of
returns c = refl
