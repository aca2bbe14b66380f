-- `ascii::names::same` meets its contract. Assumes nothing.
use mathlib.Core.Path.{ap}
use Rattle.ascii.specs.declared.names.Compared.{Compared}
use Rattle.ascii.specs.Clauses.Compared.{compared}
use Rattle.ascii.proofs.names.same.Goals as goal

pub returns : goal.returns
unfolding compared
returns c = ap (λ (x : Compared). x.same) c.compare.ensures
