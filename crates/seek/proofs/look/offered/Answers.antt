-- `seek::look::offered` meets its contract. Assumes nothing.
use Rattle.report.proofs.Faults.{accepted_readable}
use Rattle.seek.proofs.Seeking.{there_name, there_home, offered_none, offered_other, offered_it}
use Rattle.seek.proofs.look.offered.Goals as goal

pub numbered-requires : goal.numbered-requires
numbered-requires c = search accepted_readable

pub returns-in_err-a : goal.returns-in_err-a
returns-in_err-a c = rw c.from_residual.ensures (search (offered_none, c.in_err-a.was))

pub are_named-requires : goal.are_named-requires
are_named-requires c = (search (there_home, c.in_ok-a.was), search (there_name, c.in_ok-a.was))

pub returns-then-not-are_named : goal.returns-then-not-are_named
returns-then-not-are_named c = search (offered_other, c.in_ok-a.was)

pub returns : goal.returns
returns c = search (offered_it, c.in_ok-a.was)
