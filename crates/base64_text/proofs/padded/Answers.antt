-- `base64::padded` meets its contract. Assumes nothing.
use Rattle.base64_text.proofs.Sizes.{padded_first, padded_second, padded_end, two_pads, two_pads_bad, padded_third, one_pad, one_pad_bad}
use Rattle.base64_text.proofs.padded.Goals as goal

pub returns-in_err-sextet : goal.returns-in_err-sextet
returns-in_err-sextet c = rw c.from_residual.ensures (search (padded_first, c.in_err-sextet.was))

pub returns-in_err-second : goal.returns-in_err-second
returns-in_err-second c = rw c.from_residual-in_err-second.ensures (search (padded_second, c.in_ok-sextet.was, c.in_err-second.was))

pub returns-then-d-ne61 : goal.returns-then-d-ne61
returns-then-d-ne61 c = search (padded_end, c.in_ok-sextet.was, c.in_ok-second.was)

pub returns-then-second-eq0 : goal.returns-then-second-eq0
returns-then-second-eq0 c = search (two_pads, c.in_ok-sextet.was, c.in_ok-second.was)

pub returns-then-c-eq61 : goal.returns-then-c-eq61
returns-then-c-eq61 c = search (two_pads_bad, c.in_ok-sextet.was, c.in_ok-second.was)

pub returns-in_err-third : goal.returns-in_err-third
returns-in_err-third c = rw c.from_residual-in_err-third.ensures (search (padded_third, c.in_ok-sextet.was, c.in_ok-second.was, c.in_err-third.was))

pub returns-then-third-eq0 : goal.returns-then-third-eq0
returns-then-third-eq0 c = search (one_pad, c.in_ok-sextet.was, c.in_ok-second.was, c.in_ok-third.was)

pub returns : goal.returns
returns c = search (one_pad_bad, c.in_ok-sextet.was, c.in_ok-second.was, c.in_ok-third.was)
