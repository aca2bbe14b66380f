-- `table::judge::names_good` meets its contract. Assumes nothing.
use Rattle.ascii.specs.Names.{is_text}
use Rattle.datainfo.specs.Rules.{good_names}
use Rattle.table.specs.Rules.{edition_good}
use Rattle.table.specs.Clauses.At.{bytes_of, text_if}
use Rattle.table.specs.Clauses.Judged.{passed, names_from}
use Rattle.table.specs.declared.judge.Kind.TheVariants.{Modules}
use Rattle.table.proofs.Whole.{untold, names_bad, names_all}
use Rattle.table.proofs.Tests.{and_on, and_off}
use mathlib.Core.Path.{◌≡◌}
use mathlib.Core.Bool.{◌&&◌}
use Rattle.table.proofs.judge.names_good.Goals.{then-part_is_text, else-part_is_text, then-part_is_text-2, else-part_is_text-2, then-edition_is_good, else-edition_is_good}
use Rattle.table.proofs.judge.names_good.Goals as goal

pub returns-in_default : goal.returns-in_default
returns-in_default c = λ t w. search untold

pub returns-then-all_named_well : goal.returns-then-all_named_well
returns-then-all_named_well c = λ t e.
    let a : c.if-part_is_text.value ≡ (is_text (bytes_of c.args.s.now c.in-Some.h.id) && is_text (bytes_of c.args.s.now c.in-Some.h.description)) = elim c.if-part_is_text.branch [
      | then-part_is_text w ↦ and_on c.part_is_text.ensures w.if-part_is_text.true w.part_is_text-then-part_is_text.ensures w.value-is
      | else-part_is_text w ↦ and_off _ c.part_is_text.ensures w.if-part_is_text.false w.value-is
    ] in
    let b : c.if-part_is_text-2.value ≡ (is_text (bytes_of c.args.s.now c.in-Some.h.id) && is_text (bytes_of c.args.s.now c.in-Some.h.description) && edition_good (text_if c.args.s.now c.in-Some.h.edition)) = elim c.if-part_is_text-2.branch [
      | then-part_is_text-2 w ↦ and_on a w.if-part_is_text-2.true w.edition_is_good.ensures w.value-is
      | else-part_is_text-2 w ↦ and_off _ a w.if-part_is_text-2.false w.value-is
    ] in
    let v : c.if-edition_is_good.value ≡ (is_text (bytes_of c.args.s.now c.in-Some.h.id) && is_text (bytes_of c.args.s.now c.in-Some.h.description) && edition_good (text_if c.args.s.now c.in-Some.h.edition) && passed good_names (names_from Modules c.args.s.now c.in-Some.h.first)) = elim c.if-edition_is_good.branch [
      | then-edition_is_good w ↦ and_on b w.if-edition_is_good.true w.all_named_well.ensures w.value-is
      | else-edition_is_good w ↦ and_off _ b w.if-edition_is_good.false w.value-is
    ] in
    names_all _ _ c.head_at.ensures t e _ c.in-Some.is _ v _ c.if-all_named_well.true c.modules_pass.ensures

pub returns-else-all_named_well : goal.returns-else-all_named_well
returns-else-all_named_well c = λ t e.
    let a : c.if-part_is_text.value ≡ (is_text (bytes_of c.args.s.now c.in-Some.h.id) && is_text (bytes_of c.args.s.now c.in-Some.h.description)) = elim c.if-part_is_text.branch [
      | then-part_is_text w ↦ and_on c.part_is_text.ensures w.if-part_is_text.true w.part_is_text-then-part_is_text.ensures w.value-is
      | else-part_is_text w ↦ and_off _ c.part_is_text.ensures w.if-part_is_text.false w.value-is
    ] in
    let b : c.if-part_is_text-2.value ≡ (is_text (bytes_of c.args.s.now c.in-Some.h.id) && is_text (bytes_of c.args.s.now c.in-Some.h.description) && edition_good (text_if c.args.s.now c.in-Some.h.edition)) = elim c.if-part_is_text-2.branch [
      | then-part_is_text-2 w ↦ and_on a w.if-part_is_text-2.true w.edition_is_good.ensures w.value-is
      | else-part_is_text-2 w ↦ and_off _ a w.if-part_is_text-2.false w.value-is
    ] in
    let v : c.if-edition_is_good.value ≡ (is_text (bytes_of c.args.s.now c.in-Some.h.id) && is_text (bytes_of c.args.s.now c.in-Some.h.description) && edition_good (text_if c.args.s.now c.in-Some.h.edition) && passed good_names (names_from Modules c.args.s.now c.in-Some.h.first)) = elim c.if-edition_is_good.branch [
      | then-edition_is_good w ↦ and_on b w.if-edition_is_good.true w.all_named_well.ensures w.value-is
      | else-edition_is_good w ↦ and_off _ b w.if-edition_is_good.false w.value-is
    ] in
    names_bad _ _ c.head_at.ensures t e _ c.in-Some.is _ v c.if-all_named_well.false
