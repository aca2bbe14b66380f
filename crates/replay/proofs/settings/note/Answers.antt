-- `replay::settings::note` meets its contract. Assumes nothing.
use Rattle.replay.proofs.Noting.{note_table, note_none, note_markable, note_observes}
use Rattle.replay.proofs.settings.note.Goals as goal

pub parameter_by_number-requires : goal.parameter_by_number-requires
parameter_by_number-requires c = search note_table

pub returns-in_default : goal.returns-in_default
returns-in_default c = search note_none

pub mark_shown-mark-requires : goal.mark_shown-mark-requires
mark_shown-mark-requires c = search note_markable

pub returns : goal.returns
returns c = search note_observes
