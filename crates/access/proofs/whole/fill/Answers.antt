-- `access::whole::fill` meets its contract. Assumes nothing.
use Rattle.state.specs.Clauses.Bare.{unlined}
use Rattle.access.proofs.Filled.{fill_low, fill_lies, none_given, none_filled, shown_given, shown_filled}
use Rattle.access.proofs.whole.fill.Goals as goal

pub sensor_at-requires : goal.sensor_at-requires
sensor_at-requires c = search fill_low

pub complete-requires : goal.complete-requires
complete-requires c = search none_given

pub shown-value-requires : goal.shown-value-requires
shown-value-requires c = search fill_lies

pub complete-requires-in-Works : goal.complete-requires-in-Works
complete-requires-in-Works c = shown_given _ (unlined c.args.state) _ _ _ _ _ _ _ _ c.requires _ c.sensor_at.ensures c.in-Works.is _ c.shown-value.ensures

pub returns-in-Fails : goal.returns-in-Fails
returns-in-Fails c = search none_filled

pub returns-in-Works : goal.returns-in-Works
returns-in-Works c = search shown_filled
