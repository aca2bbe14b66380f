-- `rule::errors_alter_nothing` promises the theorem of `Rule`. Assumes nothing.
use mathlib.Core.Path.{refl}
use Rattle.rule.proofs.Rule.{errors_alter_nothing}
use Rattle.rule.proofs.errors_alter_nothing.Goals as goal

pub returns : goal.returns
returns c = (refl, errors_alter_nothing)
