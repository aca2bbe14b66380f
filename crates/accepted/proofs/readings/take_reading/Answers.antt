-- `accepted::readings::take_reading` meets its contract. Assumes nothing.
use borrow.Author.Rules.{rules}
use Rattle.state.proofs.Settled.{settings_sized}
use Rattle.accepted.proofs.Takes.{read_fits, read_room, read_end, updates_room, read_few, read_size, is_taken}
use Rattle.accepted.proofs.readings.take_reading.Goals as goal

pub put_form-end-requires : goal.put_form-end-requires
put_form-end-requires c = (search read_fits, search read_room)

pub slice_bounds-put_updates_to-end : goal.slice_bounds-put_updates_to-end
slice_bounds-put_updates_to-end c = search read_end

pub put_updates_to-written-requires : goal.put_updates_to-written-requires
put_updates_to-written-requires c = updates_room _ c.args.state _ _ _ _ _ _ _ c.requires _ _ c.put_form-end.ensures _ _ c.bytes_of-module.ensures c.bytes_of-name.ensures

pub stored-settings-requires : goal.stored-settings-requires
stored-settings-requires c = (search rules, search read_size)

pub sent_counted-requires : goal.sent_counted-requires
sent_counted-requires c = read_few _ c.args.state _ _ _ _ _ _ _ c.requires _ _ c.put_form-end.ensures _ _ c.bytes_of-module.ensures c.bytes_of-name.ensures
    c.put_updates_to-written.ensures

pub shape_of-values : goal.shape_of-values
shape_of-values c = search (rules, c.put_form-end)

pub returns : goal.returns
returns c = let z = settings_sized c.args.state.settings c.well_formed.1.1.1.0.1.1.1.0 in
    is_taken _ c.args.state _ _ _ _ _ _ _ c.requires _ _ c.put_form-end.ensures _ _ c.bytes_of-module.ensures c.bytes_of-name.ensures
    z _ c.stored-settings.ensures _ _ c.put_updates_to-written.ensures _ c.sent_counted.ensures
