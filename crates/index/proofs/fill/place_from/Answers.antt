use Rattle.index.proofs.Places.{passed_start, passed_more, passed_stop, passed_end}
use Rattle.index.proofs.fill.place_from.Goals as goal

pub loop-init : goal.loop-init
loop-init c = search passed_start

pub returns-then-index-p : goal.returns-then-index-p
returns-then-index-p c = search passed_stop

pub loop-preserved : goal.loop-preserved
loop-preserved c = search passed_more

pub returns : goal.returns
returns c = search passed_end
