-- `rule::good_reads_are_answered` promises the theorem of `Good`. Assumes nothing.
use mathlib.Core.Path.{refl}
use Rattle.rule.proofs.Good.{good_reads_are_answered}
use Rattle.rule.proofs.good_reads_are_answered.Goals as goal

pub returns : goal.returns
returns c = (refl, good_reads_are_answered)
