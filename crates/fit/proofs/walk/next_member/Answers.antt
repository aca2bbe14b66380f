-- `fit::walk::next_member` meets its contract: the key with its colon is passed, then the value. Assumes nothing.
use Rattle.ascii.proofs.Bytes.{ended_within}
use Rattle.fit.proofs.Walks.{member_bad, member_next}
use Rattle.fit.proofs.walk.next_member.Goals as goal

pub returns-in_err-key_end : goal.returns-in_err-key_end
returns-in_err-key_end c = rw c.from_residual.ensures (search (member_bad, c.in_err-key_end.was))

pub next-requires : goal.next-requires
next-requires c = search (ended_within, c.in_ok-key_end.was)

pub returns : goal.returns
returns c = search (member_next, c.in_ok-key_end.was)
