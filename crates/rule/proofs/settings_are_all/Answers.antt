-- `rule::settings_are_all` promises the theorem of `Settings`. Assumes nothing.
use mathlib.Core.Path.{refl}
use Rattle.rule.proofs.Settings.{settings_are_all}
use Rattle.rule.proofs.settings_are_all.Goals as goal

pub returns : goal.returns
returns c = (refl, settings_are_all)
