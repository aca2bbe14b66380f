use Rattle.table.proofs.Named.{name_within, names_less, good_last, good_bad, good_unnamed, good_repeated, good_next}
use Rattle.table.proofs.judge.all_named_well.Goals.{then-not-part_is_name-via-then-not-part_is_name, then-not-part_is_name-via-else-not-part_is_name+then-not-is_new}
use Rattle.table.proofs.judge.all_named_well.Goals as goal

pub returns-in_default : goal.returns-in_default
returns-in_default c = search good_bad

pub returns-then-not-part_is_name : goal.returns-then-not-part_is_name
returns-then-not-part_is_name c = elim c.then-not-part_is_name.branch [
  | then-not-part_is_name-via-then-not-part_is_name w ↦ search good_unnamed
  | then-not-part_is_name-via-else-not-part_is_name+then-not-is_new w ↦ search good_repeated
]

pub loop-kind-smaller : goal.loop-kind-smaller
loop-kind-smaller c = search names_less

pub loop-kind-preserved : goal.loop-kind-preserved
loop-kind-preserved c = (search name_within, search good_next)

pub returns : goal.returns
returns c = search good_last
