use Rattle.seek.proofs.Walking.{before_start, before_passed, step_less, number_none, number_there, number_more}
use Rattle.seek.proofs.walk.numbered.Goals as goal

pub loop-a-init : goal.loop-a-init
loop-a-init c = search before_start

pub advance-requires : goal.advance-requires
advance-requires c = search before_passed

pub returns : goal.returns
returns c = search number_none

pub returns-then-w-k : goal.returns-then-w-k
returns-then-w-k c = search number_there

pub loop-a-smaller : goal.loop-a-smaller
loop-a-smaller c = search step_less

pub loop-a-preserved : goal.loop-a-preserved
loop-a-preserved c = search number_more
