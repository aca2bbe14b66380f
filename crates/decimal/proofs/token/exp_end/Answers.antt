-- `decimal::token::exp_end` meets its contract. Assumes nothing.
use Rattle.decimal.proofs.Tokens.{exp_e, exp_E, exp_no}
use Rattle.decimal.proofs.token.exp_end.Goals as goal

pub returns-then-b-eq101 : goal.returns-then-b-eq101
returns-then-b-eq101 c = search exp_e

pub returns-then-b-eq69 : goal.returns-then-b-eq69
returns-then-b-eq69 c = search exp_E

pub returns : goal.returns
returns c = search exp_no
