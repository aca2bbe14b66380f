-- `switch::activate` meets its contract. Assumes nothing.
use Rattle.std.specs.Prelude.{Some}
use lib.Dec.{eqb}
use mathlib.Core.List.{[]}
use Rattle.state.specs.Clauses.Bare.{unlined}
use Rattle.state.proofs.Becomes.{brief_sized}
use Rattle.switch.proofs.Switches.{few, active_room, activated_one}
use Rattle.switch.proofs.activate.Goals as goal

pub with_bit-more-requires : goal.with_bit-more-requires
with_bit-more-requires c = few _ c.requires.0.lent.accepted _ _ c.requires.1

pub put_updates_of-told-requires : goal.put_updates_of-told-requires
put_updates_of-told-requires c = c.requires.0

pub put_final_switched_name-end-requires : goal.put_final_switched_name-end-requires
put_final_switched_name-end-requires c = let z = brief_sized c.args.state.clients c.well_formed.1.1.1.0.1.1.0 [] in
    active_room _ (unlined c.args.state) z _ _ _ c.requires.0 (λ j. eqb j _) (Some _) c.requires.1.named _ _ c.put_updates_of-told.ensures

pub returns : goal.returns
returns c = let z = brief_sized c.args.state.clients c.well_formed.1.1.1.0.1.1.0 [] in
    λ t.
    activated_one _ (unlined c.args.state) z _ _ _ c.requires.0 t _ _ _ _ _ _ _ c.requires.1.low
    c.with_bit-more.ensures c.put_updates_of-told.ensures c.put_final_switched_name-end.ensures
