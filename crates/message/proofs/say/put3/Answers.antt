-- `message::say::put3` meets its contract. Assumes nothing.
use Rattle.ascii.proofs.Puts.{puts_both}
use Rattle.message.proofs.say.put3.Goals as goal

pub returns : goal.returns
returns c = search puts_both
