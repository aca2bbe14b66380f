-- `access::setting::put_set` meets its contract. Assumes nothing.
use Rattle.access.proofs.Sets.{order_room, first_room, first_words, updates_room, update_words, reply_room, set_put}
use native.Mathlib.Omega.{arith}
use borrow.Author.Rules.{rules}
use Rattle.access.proofs.setting.put_set.Goals as goal

pub put_order_change-order-requires : goal.put_order_change-order-requires
put_order_change-order-requires c = search order_room

pub put_status-first-requires : goal.put_status-first-requires
put_status-first-requires c = (search rules, (search first_room, search first_words))

pub put_updates_to-told-requires : goal.put_updates_to-told-requires
put_updates_to-told-requires c = (search rules, (search updates_room, search update_words))

pub put_final_report-requires : goal.put_final_report-requires
put_final_report-requires c = reply_room _ _ _ _ _ _ c.requires.0 _ _ _ c.requires.1.0 _ _ c.requires.1.1 _ _ c.put_order_change-order.ensures
    _ _ c.put_status-first.ensures _ _ c.put_updates_to-told.ensures _ (omega arith)

pub returns : goal.returns
returns c = set_put _ _ _ _ _ _ c.requires.0 _ _ _ c.requires.1.0 _ _ c.requires.1.1 _ _ c.put_order_change-order.ensures
    _ _ c.put_status-first.ensures _ _ c.put_updates_to-told.ensures _ _ c.put_final_report.ensures
