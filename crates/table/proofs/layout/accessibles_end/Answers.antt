use Rattle.table.proofs.Modules.{accessibles_last, accessibles_bad, accessibles_next, accessibles_less}
use Rattle.ascii.proofs.Bytes.{ended_within}
use Rattle.table.proofs.layout.accessibles_end.Goals as goal

pub returns-in_err-i : goal.returns-in_err-i
returns-in_err-i c = rw c.from_residual.ensures (search (accessibles_bad, c.in_err-i.was))

pub loop-i-smaller : goal.loop-i-smaller
loop-i-smaller c = search (accessibles_less, c.in_ok-i.was)

pub loop-i-preserved : goal.loop-i-preserved
loop-i-preserved c = (search (ended_within, c.in_ok-i.was), search (accessibles_next, c.in_ok-i.was))

pub returns : goal.returns
returns c = search accessibles_last
