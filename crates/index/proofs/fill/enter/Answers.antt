-- `index::fill::enter` meets its contract. Assumes nothing.
use Rattle.index.proofs.Places.{place_within, place_entered}
use Rattle.index.proofs.fill.enter.Goals as goal

pub bounds-index-p : goal.bounds-index-p
bounds-index-p c = search place_within

pub returns : goal.returns
returns c = search place_entered
