-- `outbox::write::put_counted_record` meets its contract. Assumes nothing.
use Rattle.ascii.specs.Text.{bytes}
use Rattle.outbox.proofs.Written.{line_0, line_1, line_2, line_3, line_all}
use Rattle.outbox.proofs.write.put_counted_record.Goals as goal

pub put_header-line-requires : goal.put_header-line-requires
unfolding bytes
put_header-line-requires c = (search line_1, search line_0)

pub put_counted-end-requires : goal.put_counted-end-requires
unfolding bytes
put_counted-end-requires c = search line_2

pub put_byte-requires : goal.put_byte-requires
unfolding bytes
put_byte-requires c = search line_3

pub returns : goal.returns
unfolding bytes
returns c = search line_all
