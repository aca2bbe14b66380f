-- `rule::parts_are_merged` promises the theorem of `Parts`. Assumes nothing.
use mathlib.Core.Path.{refl}
use Rattle.rule.proofs.Parts.{parts_are_merged}
use Rattle.rule.proofs.parts_are_merged.Goals as goal

pub returns : goal.returns
returns c = (refl, parts_are_merged)
