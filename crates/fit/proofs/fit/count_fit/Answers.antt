-- `fit::fit::count_fit` meets its contract. Assumes nothing.
use native.Mathlib.Omega.{arith}
use Rattle.std.proofs.lemmas.Grind.{common_steps}
use Rattle.datainfo.specs.Rules.{is_between}
use Rattle.fit.proofs.fit.count_fit.Goals as goal

pub returns : goal.returns
unfolding is_between
returns c = rw (c.range_fit.ensures, c.contains.ensures.value) (grind (arith, common_steps))
