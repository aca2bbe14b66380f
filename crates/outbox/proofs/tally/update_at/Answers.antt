-- `outbox::tally::update_at` meets its contract. Assumes nothing.
use Rattle.outbox.proofs.Tallied.{update_counted}
use Rattle.outbox.proofs.tally.update_at.Goals as goal

pub returns : goal.returns
returns c = search update_counted
