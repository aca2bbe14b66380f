-- `replay::settings::mark_shown` meets its contract. Assumes nothing.
use Rattle.replay.proofs.Noting.{mark_initial, marks_initial, mark_stored, marks_stored}
use Rattle.replay.proofs.settings.mark_shown.Goals as goal

pub mark_of-requires : goal.mark_of-requires
mark_of-requires c = search mark_initial

pub returns-then-size-eq0 : goal.returns-then-size-eq0
returns-then-size-eq0 c = search marks_initial

pub mark_of-requires-2 : goal.mark_of-requires-2
mark_of-requires-2 c = search mark_stored

pub returns : goal.returns
returns c = search marks_stored
