-- `outbox::write::update_word` meets its contract. Assumes nothing.
use Rattle.ascii.specs.Text.{bytes}
use Rattle.message.specs.Reply.{update_word}
use Rattle.outbox.proofs.write.update_word.Goals as goal

pub returns-in-Works : goal.returns-in-Works
unfolding update_word bytes
returns-in-Works c = λ v. rw c.in-Works.is

pub returns-in-Fails : goal.returns-in-Fails
unfolding update_word bytes
returns-in-Fails c = λ v. rw c.in-Fails.is
