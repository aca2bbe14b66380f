-- `rule::reads_are_true` promises the theorem of `Lines`. Assumes nothing.
use mathlib.Core.Path.{refl}
use Rattle.rule.proofs.Lines.{reads_are_true}
use Rattle.rule.proofs.reads_are_true.Goals as goal

pub returns : goal.returns
returns c = (refl, reads_are_true)
