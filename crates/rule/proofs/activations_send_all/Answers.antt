-- `rule::activations_send_all` promises the theorem of `Rule`. Assumes nothing.
use mathlib.Core.Path.{refl}
use Rattle.rule.proofs.Rule.{activations_send_all}
use Rattle.rule.proofs.activations_send_all.Goals as goal

pub returns : goal.returns
returns c = (refl, activations_send_all)
