-- `message::say::put_counts` meets its contract. Assumes nothing.
use Rattle.message.proofs.Counted.{counts_all}
use Rattle.message.proofs.say.put_counts.Goals as goal

pub returns : goal.returns
returns c = counts_all c.args.counts c.args.active c.requires c.put_count-second.ensures c.put_count-third.ensures
    c.put_count-fourth.ensures c.put_count-close.ensures c.put_byte.ensures
