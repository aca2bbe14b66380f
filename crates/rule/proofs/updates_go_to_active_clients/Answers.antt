-- `rule::updates_go_to_active_clients` promises the theorem of `Rule`. Assumes nothing.
use mathlib.Core.Path.{refl}
use Rattle.rule.proofs.Rule.{updates_go_to_active_clients}
use Rattle.rule.proofs.updates_go_to_active_clients.Goals as goal

pub returns : goal.returns
returns c = (refl, updates_go_to_active_clients)
