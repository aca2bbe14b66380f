-- `fit::fit::scaled_fit` meets its contract: past the scale as an int. Assumes nothing.
use Rattle.datainfo.proofs.Own.{limit_within}
use Rattle.fit.proofs.Asked.{was_none, was_some}
use Rattle.fit.proofs.Figures.{scaled_short, scaled_int}
use Rattle.fit.proofs.fit.scaled_fit.Goals as goal

pub returns-in_err-limits : goal.returns-in_err-limits
returns-in_err-limits c = search (scaled_short, was_none c.ok_or.ensures.value c.in_err-limits.was)

pub int_fit-requires : goal.int_fit-requires
int_fit-requires c = search (limit_within, was_some c.ok_or.ensures.value c.in_ok-limits.was)

pub returns : goal.returns
returns c = search (scaled_int, was_some c.ok_or.ensures.value c.in_ok-limits.was)
