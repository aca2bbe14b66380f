-- `switch::activate_all` meets its contract. Assumes nothing.
use Rattle.std.specs.Prelude.{None}
use mathlib.Core.Bool.{true}
use mathlib.Core.List.{[]}
use Rattle.fitness.proofs.Unfits.{few_counted}
use Rattle.report.proofs.Faults.{accepted_readable}
use Rattle.state.specs.Clauses.Bare.{unlined}
use Rattle.state.proofs.Becomes.{brief_sized}
use Rattle.switch.proofs.Switches.{active_room, activated_all}
use Rattle.switch.proofs.activate_all.Goals as goal

pub module_count-requires : goal.module_count-requires
module_count-requires c = search accepted_readable

pub with_bits-all-requires : goal.with_bits-all-requires
with_bits-all-requires c = few_counted c.args.table.now c.requires.lent.accepted _ c.module_count.ensures

pub put_updates_of-told-requires : goal.put_updates_of-told-requires
put_updates_of-told-requires c = c.requires

pub put_final_switched-end-requires : goal.put_final_switched-end-requires
put_final_switched-end-requires c = let z = brief_sized c.args.state.clients c.well_formed.1.1.1.0.1.1.0 [] in
    active_room _ (unlined c.args.state) z _ _ _ c.requires (λ i. true) None tt _ _ c.put_updates_of-told.ensures

pub returns : goal.returns
returns c = let z = brief_sized c.args.state.clients c.well_formed.1.1.1.0.1.1.0 [] in
    λ t.
    activated_all _ (unlined c.args.state) z _ _ _ c.requires t _ _ _ _ _ _ c.module_count.ensures
    c.with_bits-all.ensures c.put_updates_of-told.ensures c.put_final_switched-end.ensures
