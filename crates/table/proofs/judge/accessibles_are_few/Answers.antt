use Rattle.table.proofs.Whole.{few_last, members_within, members_less, few_bad, few_over, few_next}
use Rattle.table.proofs.judge.accessibles_are_few.Goals as goal

pub returns-in_default : goal.returns-in_default
returns-in_default c = search few_bad

pub returns-then-left-n : goal.returns-then-left-n
returns-then-left-n c = search few_over

pub loop-n-smaller : goal.loop-n-smaller
loop-n-smaller c = search members_less

pub loop-n-preserved : goal.loop-n-preserved
loop-n-preserved c = (search members_within, search few_next)

pub returns : goal.returns
returns c = search few_last
