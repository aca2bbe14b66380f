-- `encode::tables_have_one_layout` promises the theorem of `Whole`. Assumes nothing.
use mathlib.Core.Path.{refl}
use Rattle.encode.proofs.Whole.{tables_have_one_layout}
use Rattle.encode.proofs.tables_have_one_layout.Goals as goal

pub returns : goal.returns
returns c = (refl, tables_have_one_layout)
