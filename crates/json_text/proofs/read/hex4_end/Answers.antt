-- `json_text::read::hex4_end` meets its contract. Assumes nothing.
use Rattle.json_text.proofs.Strings.{hex4_bad, hex4_bad_2, hex4_bad_3, hex4_more}
use Rattle.json_text.proofs.read.hex4_end.Goals as goal

pub returns-in_err-i : goal.returns-in_err-i
returns-in_err-i c = rw c.from_residual.ensures (search (hex4_bad, c.in_err-i.was))

pub returns-in_err-j : goal.returns-in_err-j
returns-in_err-j c = rw c.from_residual-in_err-j.ensures (search (hex4_bad_2, c.in_ok-i.was, c.in_err-j.was))

pub returns-in_err-k : goal.returns-in_err-k
returns-in_err-k c = rw c.from_residual-in_err-k.ensures (search (hex4_bad_3, c.in_ok-i.was, c.in_ok-j.was, c.in_err-k.was))

pub returns : goal.returns
returns c = search (hex4_more, c.in_ok-i.was, c.in_ok-j.was, c.in_ok-k.was)
