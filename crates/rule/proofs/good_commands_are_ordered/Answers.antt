-- `rule::good_commands_are_ordered` promises the theorem of `Good`. Assumes nothing.
use mathlib.Core.Path.{refl}
use Rattle.rule.proofs.Good.{good_commands_are_ordered}
use Rattle.rule.proofs.good_commands_are_ordered.Goals as goal

pub returns : goal.returns
returns c = (refl, good_commands_are_ordered)
