-- `outbox::tally::past_record` meets its contract. Assumes nothing.
use Rattle.outbox.specs.Clauses.Tallied.{size_at}
use Rattle.outbox.proofs.Tallied.{big_endian}
use Rattle.outbox.proofs.tally.past_record.Goals as goal

pub returns : goal.returns
unfolding size_at
returns c = rw (c.from_be_bytes.ensures, big_endian, c.byte.ensures.is, c.byte-2.ensures.is)
