-- `message::say::put_count` meets its contract. Assumes nothing.
use Rattle.message.proofs.Counted.{count_room, count_all, count_end}
use Rattle.message.proofs.say.put_count.Goals as goal

pub put_decimal-requires : goal.put_decimal-requires
put_decimal-requires c = search count_room

pub returns : goal.returns
returns c = (search count_all, search count_end)
