-- `message::say::put_word` meets its contract. Assumes nothing.
use Rattle.message.specs.Reply.{optionally}
use borrow.Author.Rules.{rules}
use Rattle.message.proofs.say.put_word.Goals as goal

pub returns : goal.returns
unfolding optionally
returns c = search rules
