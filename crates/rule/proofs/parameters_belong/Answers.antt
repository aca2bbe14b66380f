-- `rule::parameters_belong` promises the theorem of `Lines`. Assumes nothing.
use mathlib.Core.Path.{refl}
use Rattle.rule.proofs.Lines.{parameters_belong}
use Rattle.rule.proofs.parameters_belong.Goals as goal

pub returns : goal.returns
returns c = (refl, parameters_belong)
