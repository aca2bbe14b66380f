-- `outbox::write::put_describing_start` meets its contract. Assumes nothing.
use Rattle.ascii.specs.Text.{bytes}
use Rattle.outbox.proofs.Written.{start_1, start_2, start_all}
use borrow.Author.Rules.{rules}
use Rattle.outbox.proofs.write.put_describing_start.Goals as goal

pub put_header-line-requires : goal.put_header-line-requires
unfolding bytes
put_header-line-requires c = (search start_1, search rules)

pub put-requires : goal.put-requires
unfolding bytes
put-requires c = search start_2

pub returns : goal.returns
unfolding bytes
returns c = search start_all
