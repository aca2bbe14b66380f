-- `rule::pieces_are_used` promises the theorem of `Lines`. Assumes nothing.
use mathlib.Core.Path.{refl}
use Rattle.rule.proofs.Lines.{pieces_are_used}
use Rattle.rule.proofs.pieces_are_used.Goals as goal

pub returns : goal.returns
returns c = (refl, pieces_are_used)
