-- `rule::bad_changes_are_refused` promises the theorem of `Good`. Assumes nothing.
use mathlib.Core.Path.{refl}
use Rattle.rule.proofs.Good.{bad_changes_are_refused}
use Rattle.rule.proofs.bad_changes_are_refused.Goals as goal

pub returns : goal.returns
returns c = (refl, bad_changes_are_refused)
