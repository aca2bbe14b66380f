-- `decimal::compare::digits_value` meets its contract. The loop's invariant: n is the number of the digits passed, below ten to their
-- count, so that there is room for one more. Assumes nothing.
use Prim.Native.Nat.{◌^◌, ◌≤◌, ◌<◌}
use mathlib.Core.Path.{◌≡◌}
use lib.ListN.{length, drop}
use Rattle.decimal.specs.Decimal.{numeral_from}
use Rattle.decimal.specs.Clauses.Exact.{value}
use Rattle.decimal.proofs.compare.digits_value.Given as goal

abbrev pub invariant-loop-b : goal.invariant-loop-b
invariant-loop-b l = (l.b-index ≤ length l.s) × (l.n.low < 10 ^ 16) × (value l.n < 10 ^ l.b-index) × (numeral_from 0 l.s ≡ numeral_from (value l.n) (drop l.b-index l.s))
