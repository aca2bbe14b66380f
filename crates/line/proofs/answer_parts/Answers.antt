-- `line::answer_parts` meets its contract. Assumes nothing.
use mathlib.Core.List.{[]}
use Rattle.state.proofs.Becomes.{brief_sized}
use Rattle.state.proofs.Settled.{settings_sized}
use Rattle.line.proofs.Answers.{carriable, parts_concludable, line_answered}
use borrow.Author.Rules.{rules}
use Rattle.line.proofs.answer_parts.Goals as goal

pub outcome-came-requires : goal.outcome-came-requires
outcome-came-requires c = (search rules, (search rules, (search carriable, search rules)))

pub conclude-requires : goal.conclude-requires
conclude-requires c = (search rules, search parts_concludable)

pub returns : goal.returns
returns c = let y = brief_sized c.args.state.clients c.well_formed.1.1.1.0.1.1.0 [] in
    let z = settings_sized c.args.state.settings c.well_formed.1.1.1.0.1.1.1.0 in
    let came = c.outcome-came in
    line_answered c.args.table.now c.args.state c.args.values.now c.args.out.now c.args.client c.args.time c.requires.0
    c.args.line.now c.requires.1.1.0 _ _ _ c.requires.1.1.1.0 _ c.requires.1.1.1.1.0 y z c.requires.1.0 c.outcome-came.new.out _ _ c.outcome-came.result _
    c.outcome-came.ensures
    (rw (c.bytes_of.ensures, c.bytes_of-2.ensures) at c.conclude.ensures)
