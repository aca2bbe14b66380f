-- `trace::kind_of` meets its contract. Assumes nothing.
use Rattle.trace.proofs.Judging.{not_marked, marked_O, marked_C, marked_P, marked_R, marked_F, no_kind}
use Rattle.trace.proofs.kind_of.Goals as goal

pub returns-in-69-eq79 : goal.returns-in-69-eq79
returns-in-69-eq79 c = search marked_O

pub returns-in-69-eq67 : goal.returns-in-69-eq67
returns-in-69-eq67 c = search marked_C

pub returns-in-69-eq80 : goal.returns-in-69-eq80
returns-in-69-eq80 c = search marked_P

pub returns-in-69-eq82 : goal.returns-in-69-eq82
returns-in-69-eq82 c = search marked_R

pub returns-in-69-eq70 : goal.returns-in-69-eq70
returns-in-69-eq70 c = search marked_F

pub returns-in_default : goal.returns-in_default
returns-in_default c = search no_kind

pub returns-in_default-2 : goal.returns-in_default-2
returns-in_default-2 c = search not_marked
