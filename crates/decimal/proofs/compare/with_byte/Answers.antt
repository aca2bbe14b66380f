-- `decimal::compare::with_byte` meets its contract: a byte that is a digit is at least 48, and less than ten above that. Assumes nothing.
use mathlib.Core.Path.{sym, ◌∙◌}
use borrow.Author.Tests.{not-false}
use Rattle.decimal.proofs.Values.{digit_above, digit_below, holds_digit, holds_other}
use Rattle.decimal.proofs.compare.with_byte.Goals as goal

pub returns-then-not-is_digit : goal.returns-then-not-is_digit
returns-then-not-is_digit c = search holds_other

pub overflow_sub-b : goal.overflow_sub-b
overflow_sub-b c = digit_above _ (sym c.is_digit.ensures ∙ not-false _ c.if-not-is_digit.false-raw)

pub appended-requires : goal.appended-requires
appended-requires c = (c.requires, rw c.from.ensures (digit_below _ (sym c.is_digit.ensures ∙ not-false _ c.if-not-is_digit.false-raw)))

pub returns : goal.returns
returns c = let h = rw c.from.ensures at c.appended.ensures in search holds_digit
