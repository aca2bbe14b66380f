-- `message::say::put_named` meets its contract. Assumes nothing.
use Rattle.ascii.proofs.Puts.{puts_both}
use Rattle.message.proofs.say.put_named.Goals as goal

pub returns : goal.returns
returns c = search puts_both
