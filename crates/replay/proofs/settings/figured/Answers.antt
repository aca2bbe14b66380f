-- `replay::settings::figured` meets its contract. Assumes nothing.
use Rattle.replay.proofs.Choices.{counts_refused, counts_nothing, chosen_shown, counts_set}
use borrow.Author.Rules.{rules}
use Rattle.replay.proofs.settings.figured.Goals as goal

pub returns-then-done-ne0 : goal.returns-then-done-ne0
returns-then-done-ne0 c = search counts_refused

pub note-requires : goal.note-requires
note-requires c = (search chosen_shown, search rules)

pub returns-in_default : goal.returns-in_default
returns-in_default c = search counts_nothing

pub returns-in-Some : goal.returns-in-Some
returns-in-Some c = search counts_set
