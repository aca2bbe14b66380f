use Rattle.table.proofs.Named.{name_within, names_less, new_last, new_bad, new_fails, new_next}
use Rattle.table.proofs.judge.is_new.Goals as goal

pub returns-in_default : goal.returns-in_default
returns-in_default c = search new_bad

pub returns-then-not-parts_differ : goal.returns-then-not-parts_differ
returns-then-not-parts_differ c = search new_fails

pub loop-kind-smaller : goal.loop-kind-smaller
loop-kind-smaller c = search names_less

pub loop-kind-preserved : goal.loop-kind-preserved
loop-kind-preserved c = (search name_within, search new_next)

pub returns : goal.returns
returns c = search new_last
