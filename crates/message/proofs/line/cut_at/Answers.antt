-- `message::line::cut_at` meets its contract. Assumes nothing.
use Rattle.message.proofs.Cuts.{cuts}
use Rattle.message.proofs.line.cut_at.Goals as goal

pub returns : goal.returns
returns c = search cuts
