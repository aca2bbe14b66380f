-- `fit::fit::limits_fit` meets its contract: two limits, then the comparison. Assumes nothing.
use native.Mathlib.Omega.{arith}
use Rattle.datainfo.proofs.Own.{unsigned_within}
use Rattle.fit.proofs.Asked.{was_none, was_some}
use Rattle.fit.proofs.Plain.{limits_1, limits_2, limits_good}
use Rattle.fit.proofs.fit.limits_fit.Goals as goal

pub returns-in_err-lo : goal.returns-in_err-lo
returns-in_err-lo c = search (limits_1, was_none c.ok_or.ensures.value c.in_err-lo.was)

pub unsigned-requires-2 : goal.unsigned-requires-2
unsigned-requires-2 c = (search (unsigned_within, was_some c.ok_or.ensures.value c.in_ok-lo.was), omega arith)

pub returns-in_err-hi : goal.returns-in_err-hi
returns-in_err-hi c = search (limits_2, was_some c.ok_or.ensures.value c.in_ok-lo.was, was_none c.ok_or-2.ensures.value c.in_err-hi.was)

pub returns : goal.returns
returns c = search (limits_good, was_some c.ok_or.ensures.value c.in_ok-lo.was, was_some c.ok_or-2.ensures.value c.in_ok-hi.was)
