-- `decimal::token::sign_end` meets its contract. Assumes nothing.
use Rattle.decimal.proofs.Tokens.{sign_yes, sign_no}
use Rattle.decimal.proofs.token.sign_end.Goals as goal

pub returns-then-byte-eq43 : goal.returns-then-byte-eq43
returns-then-byte-eq43 c = search sign_yes

pub returns : goal.returns
returns c = search sign_no
