-- `decimal::compare::exact_at_most` meets its contract: a law for each way of the two signs. Assumes nothing.
use Rattle.decimal.proofs.Integers.{both_negative, first_negative, first_zero, second_negative, neither_negative}
use Rattle.decimal.proofs.compare.exact_at_most.Goals as goal

pub returns-then-b : goal.returns-then-b
returns-then-b c = search both_negative

pub returns-then-a : goal.returns-then-a
returns-then-a c = search first_negative

pub returns-then-is_zero : goal.returns-then-is_zero
returns-then-is_zero c = search first_zero

pub returns-then-b-2 : goal.returns-then-b-2
returns-then-b-2 c = search second_negative

pub returns : goal.returns
returns c = search neither_negative
