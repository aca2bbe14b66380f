-- `rule::commands_are_ordered` promises the theorem of `Lines`. Assumes nothing.
use mathlib.Core.Path.{refl}
use Rattle.rule.proofs.Lines.{commands_are_ordered}
use Rattle.rule.proofs.commands_are_ordered.Goals as goal

pub returns : goal.returns
returns c = (refl, commands_are_ordered)
