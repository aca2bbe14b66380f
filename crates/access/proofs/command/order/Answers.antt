-- `access::command::order` meets its contract. Assumes nothing.
use Rattle.ascii.specs.Text.{bytes}
use Rattle.access.proofs.Orders.{report_room, order_all}
use Rattle.access.proofs.command.order.Goals as goal

pub put_final_report-requires : goal.put_final_report-requires
unfolding bytes
put_final_report-requires c = search report_room

pub returns : goal.returns
unfolding bytes
returns c = search order_all
