-- `rule::changes_are_sent_to_all` promises the theorem of `Rule`. Assumes nothing.
use mathlib.Core.Path.{refl}
use Rattle.rule.proofs.Rule.{changes_are_sent_to_all}
use Rattle.rule.proofs.changes_are_sent_to_all.Goals as goal

pub returns : goal.returns
returns c = (refl, changes_are_sent_to_all)
