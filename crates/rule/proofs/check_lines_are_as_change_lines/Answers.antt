-- `rule::check_lines_are_as_change_lines` promises the theorem of `Checks`. Assumes nothing.
use mathlib.Core.Path.{refl}
use Rattle.rule.proofs.Checks.{check_lines_are_as_change_lines}
use Rattle.rule.proofs.check_lines_are_as_change_lines.Goals as goal

pub returns : goal.returns
returns c = (refl, check_lines_are_as_change_lines)
