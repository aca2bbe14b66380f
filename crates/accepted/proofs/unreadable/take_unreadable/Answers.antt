-- `accepted::unreadable::take_unreadable` meets its contract. Assumes nothing.
use mathlib.Core.List.{[]}
use Rattle.state.specs.Clauses.Bare.{with_lines, lined}
use Rattle.state.proofs.Settled.{settings_sized}
use Rattle.accepted.proofs.Tells.{fail_room, fail_few, is_failed}
use Rattle.accepted.proofs.unreadable.take_unreadable.Goals as goal

pub put_updates_to-written-requires : goal.put_updates_to-written-requires
put_updates_to-written-requires c = fail_room _ _ _ _ _ _ c.requires (with_lines c.args.state.clients []) c.args.fault _ _
    c.bytes_of-module.ensures c.bytes_of-name.ensures

pub sent_counted-requires : goal.sent_counted-requires
sent_counted-requires c = fail_few _ _ _ _ _ _ c.requires (with_lines c.args.state.clients []) c.args.fault _ _
    c.bytes_of-module.ensures c.bytes_of-name.ensures
    c.put_updates_to-written.ensures

pub returns : goal.returns
returns c = let z = settings_sized c.args.state.settings c.well_formed.1.1.0.1.1.1.0 in
    λ lines. is_failed _ _ _ _ _ _ c.requires (lined c.args.state lines) c.args.fault _ _
    c.bytes_of-module.ensures c.bytes_of-name.ensures z _ c.fault_number.ensures _ c.failed-settings.ensures
    _ _ c.put_updates_to-written.ensures _ c.sent_counted.ensures
