-- `decimal::token::int_end` meets its contract. Assumes nothing.
use Rattle.decimal.proofs.Tokens.{int_zero, int_more}
use Rattle.decimal.proofs.token.int_end.Goals as goal

pub returns-then-byte-eq48 : goal.returns-then-byte-eq48
returns-then-byte-eq48 c = search int_zero

pub returns : goal.returns
returns c = search int_more
