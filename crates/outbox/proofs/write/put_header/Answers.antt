-- `outbox::write::put_header` meets its contract. Assumes nothing.
use Rattle.outbox.proofs.Written.{header_3, header_all}
use Rattle.outbox.proofs.write.put_header.Goals as goal

pub put-requires : goal.put-requires
put-requires c = rw c.to_be_bytes.ensures (search header_3)

pub returns : goal.returns
returns c = header_all _ _ _ _ _ _ _ _ _ _ _ c.requires.1 c.put-second.ensures c.put_byte-third.ensures (rw c.to_be_bytes.ensures at c.put.ensures)
