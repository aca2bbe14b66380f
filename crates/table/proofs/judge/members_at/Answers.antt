-- `table::judge::members_at` meets its contract. Assumes nothing.
use Rattle.table.proofs.Whole.{members_headless, members_endless, members_are}
use Rattle.table.proofs.judge.members_at.Goals as goal

pub returns-in_err-m : goal.returns-in_err-m
returns-in_err-m c = rw c.from_residual.ensures (search (members_headless, c.in_err-m.was))

pub returns-in_err-e : goal.returns-in_err-e
returns-in_err-e c = rw c.from_residual-in_err-e.ensures (search (members_endless, c.in_ok-m.was, c.in_err-e.was))

pub returns : goal.returns
returns c = search (members_are, c.in_ok-m.was, c.in_ok-e.was)
