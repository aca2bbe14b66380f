-- `update::put_updates_of` meets its contract. The loop's invariant: the updates of the first k parameters are written. Assumes nothing.
use Rattle.update.proofs.Showings.{Sent}
use Rattle.update.proofs.put_updates_of.Given as goal

abbrev pub invariant-loop-k : goal.invariant-loop-k
invariant-loop-k l = Sent l.table l.state.settings l.values l.client l.scope l.initial.out l.k l.cursor l.out l.end
