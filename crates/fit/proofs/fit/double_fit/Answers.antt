-- `fit::fit::double_fit` meets its contract: two limits, then the comparison. Assumes nothing.
use Rattle.datainfo.proofs.Own.{limit_within}
use Rattle.fit.proofs.Asked.{was_none, was_some}
use Rattle.fit.proofs.Figures.{double_1, double_2, double_good}
use borrow.Author.Rules.{sfits_of}
use Rattle.fit.proofs.fit.double_fit.Goals as goal

pub returns-in_err-lo : goal.returns-in_err-lo
returns-in_err-lo c = search (double_1, was_none c.ok_or.ensures.value c.in_err-lo.was)

pub limit_at-requires-2 : goal.limit_at-requires-2
limit_at-requires-2 c = search (limit_within, was_some c.ok_or.ensures.value c.in_ok-lo.was)

pub returns-in_err-hi : goal.returns-in_err-hi
returns-in_err-hi c = search (double_2, was_some c.ok_or.ensures.value c.in_ok-lo.was, was_none c.ok_or-2.ensures.value c.in_err-hi.was)

pub returns : goal.returns
returns c = search (double_good, sfits_of, was_some c.ok_or.ensures.value c.in_ok-lo.was, was_some c.ok_or-2.ensures.value c.in_ok-hi.was)
