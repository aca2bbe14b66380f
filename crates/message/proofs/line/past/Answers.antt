-- `message::line::past` meets its contract. Assumes nothing.
use Rattle.message.proofs.Cuts.{past_one, past_end}
use Rattle.message.proofs.line.past.Goals as goal

pub returns-then-at-s : goal.returns-then-at-s
returns-then-at-s c = search past_one

pub returns-else-at-s : goal.returns-else-at-s
returns-else-at-s c = search past_end
