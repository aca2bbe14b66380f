-- `summary::put_held` meets its contract. Assumes nothing.
use Rattle.summary.proofs.Texts.{works_room, works_put, fails_room, fails_put}
use borrow.Author.Rules.{rules}
use Rattle.summary.proofs.put_held.Goals as goal

pub put-requires : goal.put-requires
put-requires c = search works_room

pub put_fault_name-requires : goal.put_fault_name-requires
put_fault_name-requires c = search fails_room

pub returns-in-Works : goal.returns-in-Works
returns-in-Works c = search works_put

pub returns-in-Fails : goal.returns-in-Fails
returns-in-Fails c = search fails_put
