-- `message::say::word_name_length` meets its contract. Assumes nothing.
use native.Mathlib.Omega.{arith}
use Rattle.ascii.specs.Text.{bytes}
use lib.ListN.{length-append}
use Rattle.message.specs.Reply.{optionally}
use Rattle.message.proofs.say.word_name_length.Goals as goal

pub returns : goal.returns
unfolding optionally bytes
returns c = simp length-append (omega arith)
