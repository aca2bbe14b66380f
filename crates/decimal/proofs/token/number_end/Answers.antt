-- `decimal::token::number_end` meets its contract. Assumes nothing.
use Rattle.decimal.proofs.Tokens.{number_bad, number_bad_2, number_more}
use Rattle.ascii.proofs.Bytes.{ended_within}
use Rattle.decimal.proofs.token.number_end.Goals as goal

pub returns-in_err-i : goal.returns-in_err-i
returns-in_err-i c = rw c.from_residual.ensures (search (number_bad, c.in_err-i.was))

pub frac_end-requires : goal.frac_end-requires
frac_end-requires c = search (ended_within, c.in_ok-i.was)

pub returns-in_err-frac_end : goal.returns-in_err-frac_end
returns-in_err-frac_end c = rw c.from_residual-in_err-frac_end.ensures (search (number_bad_2, c.in_ok-i.was, c.in_err-frac_end.was))

pub exp_end-requires : goal.exp_end-requires
exp_end-requires c = search (ended_within, c.in_ok-frac_end.was)

pub returns : goal.returns
returns c = search (number_more, c.in_ok-i.was, c.in_ok-frac_end.was)
