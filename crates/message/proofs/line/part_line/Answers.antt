-- `message::line::part_line` meets its contract. Assumes nothing.
use Rattle.message.proofs.Requests.{parted}
use Rattle.message.proofs.line.part_line.Goals as goal

pub returns : goal.returns
returns c = search parted
