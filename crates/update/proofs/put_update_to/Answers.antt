-- `update::put_update_to` meets its contract. Assumes nothing.
use borrow.Author.Rules.{rules}
use Rattle.update.proofs.Sendings.{to_room, to_active, to_none}
use Rattle.update.proofs.put_update_to.Goals as goal

pub put_update-requires : goal.put_update-requires
put_update-requires c = search (to_room, rules)

pub returns-then-is_active : goal.returns-then-is_active
returns-then-is_active c = search to_active

pub returns-else-is_active : goal.returns-else-is_active
returns-else-is_active c = search to_none
