-- `form::complete::complete` meets its contract. Assumes nothing.
use mathlib.Core.Path.{◌∙◌, sym}
use mathlib.Core.Logic.{◌≢◌}
use Rattle.datainfo.proofs.Own.{unsigned_within}
use Rattle.form.proofs.Merged.{part_shown_lem, part_within}
use Rattle.form.proofs.Whole.{complete_short, complete_other, complete_merged, complete_whole}
use Rattle.form.proofs.complete.complete.Goals.{in_default-via-in-Some+then-k-from+else-is_part, in_default-via-in-Some+else-k-from, in_default-via-in_default}
use Rattle.form.proofs.complete.complete.Goals as goal

pub put_merged-requires : goal.put_merged-requires
put_merged-requires c = (search unsigned_within, (search part_shown_lem, search part_within))

pub returns-in-Some : goal.returns-in-Some
returns-in-Some c = search (complete_merged, c.if-k-from.true ∙ c.from.ensures)

pub returns-in_default : goal.returns-in_default
returns-in_default c = elim c.in_default.branch [
  | in_default-via-in-Some+then-k-from+else-is_part w ↦ search complete_whole
  | in_default-via-in-Some+else-k-from w ↦ let other : w.in-Some.k ≢ 11 = λ e. w.if-k-from.false (e ∙ sym w.from.ensures) in search complete_other
  | in_default-via-in_default w ↦ search complete_short
]
