-- `rule::values_alter_by_settings` promises the theorem of `Rule`. Assumes nothing.
use mathlib.Core.Path.{refl}
use Rattle.rule.proofs.Rule.{values_alter_by_settings}
use Rattle.rule.proofs.values_alter_by_settings.Goals as goal

pub returns : goal.returns
returns c = (refl, values_alter_by_settings)
