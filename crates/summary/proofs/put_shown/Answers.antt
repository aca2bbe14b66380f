-- `summary::put_shown` meets its contract. Assumes nothing.
use Rattle.summary.proofs.Shown.{shown_room, shown_put}
use borrow.Author.Rules.{rules}
use Rattle.summary.proofs.put_shown.Goals as goal

pub put_line-requires : goal.put_line-requires
put_line-requires c = search shown_room

pub returns : goal.returns
returns c = search shown_put
