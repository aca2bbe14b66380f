-- `decimal::token::minus_end` meets its contract. Assumes nothing.
use Rattle.decimal.proofs.Tokens.{minus_yes, minus_no}
use Rattle.decimal.proofs.token.minus_end.Goals as goal

pub returns-then-byte-eq45 : goal.returns-then-byte-eq45
returns-then-byte-eq45 c = search minus_yes

pub returns-else-byte-eq45 : goal.returns-else-byte-eq45
returns-else-byte-eq45 c = search minus_no
