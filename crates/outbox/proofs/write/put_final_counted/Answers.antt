-- `outbox::write::put_final_counted` meets its contract. Assumes nothing.
use Rattle.outbox.proofs.Tallied.{text_room, text_put}
use Rattle.outbox.proofs.write.put_final_counted.Goals as goal

pub put_counted_record-requires : goal.put_counted_record-requires
put_counted_record-requires c = text_room c.args.counts c.args.modules c.put_counts-end.ensures _ _ _ c.args.time c.requires

pub returns : goal.returns
returns c = text_put c.args.counts c.args.modules c.put_counts-end.ensures _ _ _ c.args.time c.put_counted_record.ensures
