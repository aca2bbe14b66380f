-- `outbox::write::switched_word` meets its contract. Assumes nothing.
use Rattle.ascii.specs.Text.{bytes}
use Rattle.message.specs.Reply.{reply_line}
use Rattle.outbox.proofs.write.switched_word.Goals as goal

pub returns-in-Active : goal.returns-in-Active
unfolding reply_line bytes
returns-in-Active c = λ m. rw c.in-Active.is

pub returns-in-Inactive : goal.returns-in-Inactive
unfolding reply_line bytes
returns-in-Inactive c = λ m. rw c.in-Inactive.is
