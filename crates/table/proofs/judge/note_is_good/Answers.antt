-- `table::judge::note_is_good` meets its contract. Assumes nothing.
use Rattle.table.proofs.Heads.{note_good_lem, note_missing}
use Rattle.table.proofs.judge.note_is_good.Goals as goal

pub returns-in-Some : goal.returns-in-Some
returns-in-Some c = search note_good_lem

pub returns-in-None : goal.returns-in-None
returns-in-None c = search note_missing
