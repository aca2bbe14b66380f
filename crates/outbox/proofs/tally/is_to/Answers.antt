-- `outbox::tally::is_to` meets its contract. Assumes nothing.
use Rattle.outbox.proofs.Tallied.{not_marked, marked}
use Rattle.outbox.proofs.tally.is_to.Goals as goal

pub returns-then-byte-mark : goal.returns-then-byte-mark
returns-then-byte-mark c = search marked

pub returns-else-byte-mark : goal.returns-else-byte-mark
returns-else-byte-mark c = search not_marked
