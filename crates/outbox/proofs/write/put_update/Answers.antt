-- `outbox::write::put_update` meets its contract. Assumes nothing.
use Rattle.ascii.specs.Text.{bytes}
use Rattle.outbox.specs.Outbox.{mark, client, body, encode}
use Rattle.outbox.specs.Clauses.Written.{sealed}
use Rattle.message.specs.Reply.{update_line}
use Rattle.outbox.proofs.Written.{line_of_update}
use Rattle.outbox.proofs.write.put_update.Goals as goal

pub put_named_record-requires : goal.put_named_record-requires
unfolding bytes update_line
put_named_record-requires c = rw (c.update_word.ensures c.args.value.now) (line_of_update _ _ _ _ c.requires)

pub returns : goal.returns
unfolding sealed encode mark client body update_line bytes
returns c = rw (c.update_word.ensures c.args.value.now) at c.put_named_record.ensures
