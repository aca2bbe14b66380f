-- `message::say::put_identification` meets its contract. Assumes nothing.
use Rattle.ascii.specs.Text.{bytes}
use Rattle.message.specs.Reply.{identity, reply_line}
use borrow.Author.Rules.{rules}
use Rattle.message.proofs.say.put_identification.Goals as goal

pub put-requires : goal.put-requires
unfolding reply_line identity bytes
put-requires c = search rules

pub returns : goal.returns
unfolding reply_line identity bytes
returns c = search rules
