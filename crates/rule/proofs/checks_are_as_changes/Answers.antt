-- `rule::checks_are_as_changes` promises the theorem of `Checks`. Assumes nothing.
use mathlib.Core.Path.{refl}
use Rattle.rule.proofs.Checks.{checks_are_as_changes}
use Rattle.rule.proofs.checks_are_as_changes.Goals as goal

pub returns : goal.returns
returns c = (refl, checks_are_as_changes)
