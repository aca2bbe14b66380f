-- `search::find::part_is` meets its contract. Assumes nothing.
use mathlib.Core.Path.{ap}
use Rattle.ascii.specs.declared.names.Compared.{Compared}
use Rattle.ascii.specs.Clauses.Compared.{compared}
use Rattle.table.specs.Clauses.At.{bytes_of}
use Rattle.search.proofs.find.part_is.Goals as goal

pub returns : goal.returns
unfolding bytes_of compared
returns c = ap (λ (x : Compared). x.same) c.compare.ensures
