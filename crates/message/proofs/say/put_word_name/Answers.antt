-- `message::say::put_word_name` meets its contract. Assumes nothing.
use Rattle.ascii.specs.Text.{bytes}
use Rattle.message.specs.Reply.{optionally}
use borrow.Author.Rules.{rules}
use Rattle.message.proofs.say.put_word_name.Goals as goal

pub put3-requires : goal.put3-requires
unfolding optionally bytes
put3-requires c = search rules

pub returns : goal.returns
unfolding optionally bytes
returns c = search rules
