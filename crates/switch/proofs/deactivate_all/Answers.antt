-- `switch::deactivate_all` meets its contract. Assumes nothing.
use Rattle.std.specs.Prelude.{None}
use borrow.Author.Rules.{rules}
use Rattle.switch.proofs.Switches.{inactive_room, all_inactive}
use Rattle.switch.proofs.deactivate_all.Goals as goal

pub put_final_switched-end-requires : goal.put_final_switched-end-requires
put_final_switched-end-requires c = inactive_room _ _ None tt (search rules)

pub returns : goal.returns
returns c = λ table t n values. all_inactive _ _ _ _ _ _ _ _ (search rules)
