-- `outbox::write::told_word` meets its contract. Assumes nothing.
use Rattle.ascii.specs.Text.{bytes}
use Rattle.message.specs.Reply.{reply_line}
use Rattle.outbox.proofs.write.told_word.Goals as goal

pub returns-in-Reply : goal.returns-in-Reply
unfolding reply_line bytes
returns-in-Reply c = λ r. rw c.in-Reply.is

pub returns-in-Changed : goal.returns-in-Changed
unfolding reply_line bytes
returns-in-Changed c = λ r. rw c.in-Changed.is

pub returns-in-Done : goal.returns-in-Done
unfolding reply_line bytes
returns-in-Done c = λ r. rw c.in-Done.is

pub returns-in-Checked : goal.returns-in-Checked
unfolding reply_line bytes
returns-in-Checked c = λ r. rw c.in-Checked.is
