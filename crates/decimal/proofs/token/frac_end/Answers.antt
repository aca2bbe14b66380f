-- `decimal::token::frac_end` meets its contract. Assumes nothing.
use Rattle.decimal.proofs.Tokens.{frac_yes, frac_no}
use Rattle.decimal.proofs.token.frac_end.Goals as goal

pub returns-then-byte-eq46 : goal.returns-then-byte-eq46
returns-then-byte-eq46 c = search frac_yes

pub returns : goal.returns
returns c = search frac_no
