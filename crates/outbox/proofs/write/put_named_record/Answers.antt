use Rattle.outbox.proofs.Written.{report_names}
use Rattle.ascii.specs.Text.{bytes}
use Rattle.outbox.proofs.Written.{line_0, line_1, line_2, line_3, line_all}
use Rattle.outbox.proofs.write.put_named_record.Goals as goal

pub named_length-size-requires : goal.named_length-size-requires
named_length-size-requires c = search report_names

pub put_header-line-requires : goal.put_header-line-requires
unfolding bytes
put_header-line-requires c = (search line_1, search line_0)

pub put_named-end-requires : goal.put_named-end-requires
unfolding bytes
put_named-end-requires c = line_2 _ _ _ _ _ _ c.named_length-size.ensures c.requires _ _ c.put_header-line.ensures

pub put_byte-requires : goal.put_byte-requires
unfolding bytes
put_byte-requires c = line_3 _ _ _ _ _ _ c.named_length-size.ensures c.requires _ _ c.put_header-line.ensures _ _ c.put_named-end.ensures

pub returns : goal.returns
unfolding bytes
returns c = search line_all
