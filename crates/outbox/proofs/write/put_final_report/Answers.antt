-- `outbox::write::put_final_report` meets its contract. Assumes nothing.
use Rattle.ascii.specs.Text.{bytes}
use Rattle.outbox.specs.Outbox.{mark, client, body, encode}
use Rattle.outbox.specs.Clauses.Written.{sealed}
use Rattle.outbox.proofs.Written.{line_of}
use Rattle.outbox.proofs.write.put_final_report.Goals as goal

pub put_named_record-requires : goal.put_named_record-requires
unfolding bytes
put_named_record-requires c = rw c.told_word.ensures (line_of _ _ _ _ c.requires)

pub returns : goal.returns
unfolding sealed encode mark client body bytes
returns c = rw c.told_word.ensures at c.put_named_record.ensures
