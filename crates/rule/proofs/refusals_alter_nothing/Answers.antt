-- `rule::refusals_alter_nothing` promises the theorem of `Calls`. Assumes nothing.
use mathlib.Core.Path.{refl}
use Rattle.rule.proofs.Calls.{refusals_alter_nothing}
use Rattle.rule.proofs.refusals_alter_nothing.Goals as goal

pub returns : goal.returns
returns c = (refl, refusals_alter_nothing)
