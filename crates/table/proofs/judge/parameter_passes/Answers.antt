-- `table::judge::parameter_passes` meets its contract. Assumes nothing.
use Rattle.table.specs.Clauses.At.{bytes_of}
use Rattle.table.specs.Clauses.Judged.{text_passes, info_passes}
use Rattle.table.proofs.Tests.{and_on, and_off, parameter_not, parameter_all}
use mathlib.Core.Path.{◌≡◌}
use mathlib.Core.Bool.{◌&&◌}
use Rattle.table.proofs.judge.parameter_passes.Goals.{then-text_passes, else-text_passes}
use Rattle.table.proofs.judge.parameter_passes.Goals as goal

pub returns-then-info_passes : goal.returns-then-info_passes
returns-then-info_passes c = λ d x e.
    let v : c.if-text_passes.value ≡ (text_passes c.args.test (bytes_of c.args.s.now c.args.q.description) && info_passes c.args.test d) = elim c.if-text_passes.branch [
      | then-text_passes w ↦ and_on c.text_passes.ensures w.if-text_passes.true (w.info_passes.ensures d x e) w.value-is
      | else-text_passes w ↦ and_off _ c.text_passes.ensures w.if-text_passes.false w.value-is
    ] in
    parameter_all c.args.s.now c.args.test c.args.q d _ v _ c.if-info_passes.true (c.value_passes.ensures d x e)

pub returns-else-info_passes : goal.returns-else-info_passes
returns-else-info_passes c = λ d x e.
    let v : c.if-text_passes.value ≡ (text_passes c.args.test (bytes_of c.args.s.now c.args.q.description) && info_passes c.args.test d) = elim c.if-text_passes.branch [
      | then-text_passes w ↦ and_on c.text_passes.ensures w.if-text_passes.true (w.info_passes.ensures d x e) w.value-is
      | else-text_passes w ↦ and_off _ c.text_passes.ensures w.if-text_passes.false w.value-is
    ] in
    parameter_not c.args.s.now c.args.test c.args.q d _ v c.if-info_passes.false
