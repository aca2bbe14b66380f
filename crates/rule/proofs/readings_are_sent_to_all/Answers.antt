-- `rule::readings_are_sent_to_all` promises the theorem of `Rule`. Assumes nothing.
use mathlib.Core.Path.{refl}
use Rattle.rule.proofs.Rule.{readings_are_sent_to_all}
use Rattle.rule.proofs.readings_are_sent_to_all.Goals as goal

pub returns : goal.returns
returns c = (refl, readings_are_sent_to_all)
