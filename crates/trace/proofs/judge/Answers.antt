-- `trace::judge` meets its contract. Assumes nothing.
use Rattle.trace.proofs.Judging.{begins, mark_wrong, head_begins, length_wrong, goes_on_lem, is_whole}
use mathlib.Core.Bool.{not}
use mathlib.Core.Path.{ap}
use Rattle.trace.proofs.judge.Goals as goal

pub returns-then-s-lt2 : goal.returns-then-s-lt2
returns-then-s-lt2 c = search begins

pub returns-in_default : goal.returns-in_default
returns-in_default c = search mark_wrong

pub returns-then-s-lt13 : goal.returns-then-s-lt13
returns-then-s-lt13 c = search head_begins

pub returns-then-not-length_good : goal.returns-then-not-length_good
returns-then-not-length_good c = search length_wrong

pub returns-then-s-size : goal.returns-then-s-size
returns-then-s-size c = search goes_on_lem

pub returns : goal.returns
returns c = is_whole _ _ c.kind_of.ensures c.if-s-lt2.false _ c.in-Some.is _ c.number_at-size.ensures c.if-s-lt13.false _
    c.length_good.ensures (ap not c.if-not-length_good.false) c.if-s-size.false _ c.number_at.ensures
