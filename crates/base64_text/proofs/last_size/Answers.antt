-- `base64::last_size` meets its contract. Assumes nothing.
use Rattle.base64_text.proofs.Sizes.{last_none, last_padded, last_bad}
use Rattle.base64_text.proofs.last_size.Goals as goal

pub returns-then-left-eq0 : goal.returns-then-left-eq0
returns-then-left-eq0 c = search last_none

pub returns-then-left-eq4 : goal.returns-then-left-eq4
returns-then-left-eq4 c = search last_padded

pub returns : goal.returns
returns c = search last_bad
