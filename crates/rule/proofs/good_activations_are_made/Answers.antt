-- `rule::good_activations_are_made` promises the theorem of `Good`. Assumes nothing.
use mathlib.Core.Path.{refl}
use Rattle.rule.proofs.Good.{good_activations_are_made}
use Rattle.rule.proofs.good_activations_are_made.Goals as goal

pub returns : goal.returns
returns c = (refl, good_activations_are_made)
