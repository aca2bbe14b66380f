-- `state::count::counts_of` meets its contract. Assumes nothing.
use Rattle.state.specs.View.{counts_at}
use Rattle.state.proofs.count.counts_of.Goals as goal

pub returns : goal.returns
unfolding counts_at
returns c = c.stopped.ensures
