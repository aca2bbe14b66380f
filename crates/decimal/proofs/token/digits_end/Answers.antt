-- `decimal::token::digits_end` meets its contract. Assumes nothing.
use Rattle.decimal.proofs.Tokens.{digits_yes, digits_no}
use Rattle.decimal.proofs.token.digits_end.Goals as goal

pub returns-then-is_digit : goal.returns-then-is_digit
returns-then-is_digit c = search digits_yes

pub returns-else-is_digit : goal.returns-else-is_digit
returns-else-is_digit c = search digits_no
