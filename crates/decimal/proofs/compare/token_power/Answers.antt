-- `decimal::compare::token_power` meets its contract: the limits keep it from going below 0. Assumes nothing.
use native.Mathlib.Omega.{arith}
use Rattle.decimal.proofs.Integers.{negative_power, positive_power}
use Rattle.decimal.proofs.compare.token_power.Goals as goal

pub returns-then-negative : goal.returns-then-negative
returns-then-negative c = let a = c.args in negative_power a.negative a.written a.places c.if-negative.true (omega arith)

pub returns : goal.returns
returns c = let a = c.args in positive_power a.negative a.written a.places c.if-negative.false (omega arith)
