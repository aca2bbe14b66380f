-- `figures::digits_of` meets its contract. Assumes nothing.
use mathlib.Core.Path.{◌≡◌}
use lib.ListN.{drop}
use Rattle.decimal.specs.Decimal.{numeral_from}
use Rattle.figures.proofs.digits_of.Given as goal

abbrev pub invariant-loop-b : goal.invariant-loop-b
invariant-loop-b l = numeral_from 0 l.t ≡ numeral_from l.n (drop l.b-index l.t)
