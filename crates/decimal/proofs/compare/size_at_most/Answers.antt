-- `decimal::compare::size_at_most` meets its contract: one of the two is counted as it is. Assumes nothing.
use Rattle.decimal.proofs.Naturals.{below_scaled, scaled_below}
use Rattle.decimal.proofs.compare.size_at_most.Goals as goal

pub returns-then-p-q : goal.returns-then-p-q
returns-then-p-q c = search below_scaled

pub returns : goal.returns
returns c = search scaled_below
