-- `rule::activations_are_ones_own` promises the theorem of `Rule`. Assumes nothing.
use mathlib.Core.Path.{refl}
use Rattle.rule.proofs.Rule.{activations_are_ones_own}
use Rattle.rule.proofs.activations_are_ones_own.Goals as goal

pub returns : goal.returns
returns c = (refl, activations_are_ones_own)
