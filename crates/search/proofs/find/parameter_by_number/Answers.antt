use Rattle.search.proofs.Finds.{number_missing, number_is_lem, number_on}
use native.Mathlib.Omega.{arith}
use Rattle.search.proofs.find.parameter_by_number.Goals as goal

pub returns-then-i-k : goal.returns-then-i-k
returns-then-i-k c = search number_is_lem

pub loop-q-preserved : goal.loop-q-preserved
loop-q-preserved c = (omega arith, search number_on)

pub returns : goal.returns
returns c = search number_missing
