-- `access::command::put_order` meets its contract. Assumes nothing.
use borrow.Author.Rules.{rules}
use native.Mathlib.Omega.{arith}
use mathlib.Core.List.{[]}
use Rattle.access.proofs.Orders.{order_room, order_none, argument_fits, order_room_form, order_some}
use Rattle.access.proofs.command.put_order.Goals as goal

pub put_order_command-requires : goal.put_order_command-requires
put_order_command-requires c = order_room _ _ _ _ _ _ c.requires 0 _ _ [] (omega arith)

pub returns-then-not-argument : goal.returns-then-not-argument
returns-then-not-argument c = search order_none

pub put_form-size-requires : goal.put_form-size-requires
put_form-size-requires c = (search argument_fits, search rules)

pub put_order_command-requires-2 : goal.put_order_command-requires-2
put_order_command-requires-2 c = search order_room_form

pub returns : goal.returns
returns c = search order_some
