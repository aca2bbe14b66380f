use native.Mathlib.Omega.{arith}
use Rattle.ascii.proofs.Bytes.{digit_next, digits_more, digits_stop}
use Rattle.decimal.proofs.token.past_digits.Goals as goal

pub loop-i-smaller : goal.loop-i-smaller
loop-i-smaller c = let h = digit_next c.byte.ensures c.is_digit.ensures c.loop-i-test.true in omega arith

pub loop-i-preserved : goal.loop-i-preserved
loop-i-preserved c = (search digit_next, search digits_more)

pub returns : goal.returns
returns c = search digits_stop
