-- `outbox::write::put_order` meets its contract. Assumes nothing.
use Rattle.outbox.proofs.Written.{order_0, order_1, order_2, order_3, order_all}
use Rattle.outbox.proofs.write.put_order.Goals as goal

pub put_header-body-requires : goal.put_header-body-requires
put_header-body-requires c = (search order_1, search order_0)

pub put_byte-rest-requires : goal.put_byte-rest-requires
put_byte-rest-requires c = search order_2

pub put-requires : goal.put-requires
put-requires c = search order_3

pub returns : goal.returns
returns c = search order_all
