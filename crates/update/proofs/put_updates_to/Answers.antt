use borrow.Author.Rules.{rules}
use Rattle.update.proofs.Sendings.{going_start, going_length, next_room, next_sent, all_sent_lem}
use Rattle.update.proofs.put_updates_to.Goals as goal

pub loop-c-init : goal.loop-c-init
loop-c-init c = going_start _ _ _

pub put_update_to-end-requires : goal.put_update_to-end-requires
put_update_to-end-requires c = search (next_room, rules)

pub loop-c-preserved : goal.loop-c-preserved
loop-c-preserved c = search next_sent

pub shape_of-out : goal.shape_of-out
shape_of-out c = search going_length

pub returns : goal.returns
returns c = search all_sent_lem
