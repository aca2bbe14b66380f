use Rattle.table.proofs.Named.{name_within, names_less, names_after, count_last, count_bad, count_next}
use Rattle.table.proofs.judge.count.Goals as goal

pub returns-in_default : goal.returns-in_default
returns-in_default c = search count_bad

pub loop-kind-smaller : goal.loop-kind-smaller
loop-kind-smaller c = search names_less

pub loop-kind-preserved : goal.loop-kind-preserved
loop-kind-preserved c = ((search name_within, search names_after), search count_next)

pub returns : goal.returns
returns c = search count_last
