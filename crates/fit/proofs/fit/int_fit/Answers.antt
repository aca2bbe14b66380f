-- `fit::fit::int_fit` meets its contract: two limits, then the comparison. Assumes nothing.
use native.Mathlib.Omega.{arith}
use Rattle.datainfo.proofs.Own.{signed_within}
use Rattle.fit.proofs.Asked.{was_none, was_some}
use Rattle.fit.proofs.Figures.{int_1, int_2, int_good}
use borrow.Author.Rules.{sfits_of}
use Rattle.fit.proofs.fit.int_fit.Goals as goal

pub returns-in_err-lo : goal.returns-in_err-lo
returns-in_err-lo c = search (int_1, was_none c.ok_or.ensures.value c.in_err-lo.was)

pub signed-requires-2 : goal.signed-requires-2
signed-requires-2 c = (search (signed_within, was_some c.ok_or.ensures.value c.in_ok-lo.was), omega arith)

pub returns-in_err-hi : goal.returns-in_err-hi
returns-in_err-hi c = search (int_2, was_some c.ok_or.ensures.value c.in_ok-lo.was, was_none c.ok_or-2.ensures.value c.in_err-hi.was)

pub returns : goal.returns
returns c = search (int_good, sfits_of, was_some c.ok_or.ensures.value c.in_ok-lo.was, was_some c.ok_or-2.ensures.value c.in_ok-hi.was)
