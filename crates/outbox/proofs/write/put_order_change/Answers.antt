-- `outbox::write::put_order_change` meets its contract. Assumes nothing.
use Rattle.ascii.specs.Text.{bytes}
use Rattle.outbox.specs.Outbox.{mark, client, body, encode}
use Rattle.outbox.specs.Clauses.Written.{sealed}
use Rattle.outbox.proofs.Written.{room_of}
use Rattle.outbox.proofs.write.put_order_change.Goals as goal

pub put_order-requires : goal.put_order-requires
unfolding mark client body bytes
put_order-requires c = room_of _ _ _ c.requires

pub returns : goal.returns
unfolding sealed encode mark client body bytes
returns c = c.put_order.ensures
