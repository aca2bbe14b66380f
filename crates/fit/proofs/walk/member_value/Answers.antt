-- `fit::walk::member_value` meets its contract: the key with its colon is passed, then spaces. Assumes nothing.
use Rattle.ascii.proofs.Bytes.{ended_within}
use Rattle.fit.proofs.Walks.{value_bad, value_good}
use Rattle.fit.proofs.walk.member_value.Goals as goal

pub returns-in_err-key_end : goal.returns-in_err-key_end
returns-in_err-key_end c = rw c.from_residual.ensures (search (value_bad, c.in_err-key_end.was))

pub spaces_end-requires : goal.spaces_end-requires
spaces_end-requires c = search (ended_within, c.in_ok-key_end.was)

pub returns : goal.returns
returns c = search (value_good, c.in_ok-key_end.was)
