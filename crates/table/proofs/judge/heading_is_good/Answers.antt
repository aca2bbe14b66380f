-- `table::judge::heading_is_good` meets its contract. Assumes nothing.
use Rattle.ascii.specs.Names.{is_text}
use Rattle.table.specs.Rules.{note_good}
use Rattle.table.specs.Clauses.At.{bytes_of, text_if}
use Rattle.table.proofs.Heads.{head_textless, head_good}
use Rattle.table.proofs.Tests.{and_on, and_off}
use mathlib.Core.Path.{◌≡◌}
use mathlib.Core.Bool.{◌&&◌}
use Rattle.table.proofs.judge.heading_is_good.Goals.{then-part_is_text, else-part_is_text}
use Rattle.table.proofs.judge.heading_is_good.Goals as goal

pub returns-then-note_is_good : goal.returns-then-note_is_good
returns-then-note_is_good c =
    let v : c.if-part_is_text.value ≡ (is_text (bytes_of c.args.s.now c.args.m.description) && note_good (text_if c.args.s.now c.args.m.note)) = elim c.if-part_is_text.branch [
      | then-part_is_text w ↦ and_on c.part_is_text.ensures w.if-part_is_text.true w.note_is_good.ensures w.value-is
      | else-part_is_text w ↦ and_off _ c.part_is_text.ensures w.if-part_is_text.false w.value-is
    ] in
    head_good _ _ _ v _ c.if-note_is_good.true c.all_named_well.ensures

pub returns-else-note_is_good : goal.returns-else-note_is_good
returns-else-note_is_good c =
    let v : c.if-part_is_text.value ≡ (is_text (bytes_of c.args.s.now c.args.m.description) && note_good (text_if c.args.s.now c.args.m.note)) = elim c.if-part_is_text.branch [
      | then-part_is_text w ↦ and_on c.part_is_text.ensures w.if-part_is_text.true w.note_is_good.ensures w.value-is
      | else-part_is_text w ↦ and_off _ c.part_is_text.ensures w.if-part_is_text.false w.value-is
    ] in
    head_textless _ _ _ v c.if-note_is_good.false
