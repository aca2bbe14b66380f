-- `accepted::pieces::answer_held` meets its contract. Assumes nothing.
use borrow.Author.Rules.{rules}
use Rattle.promise.proofs.Held.{line_short}
use Rattle.state.specs.Clauses.Bare.{lined}
use Rattle.state.proofs.Becomes.{brief_sized}
use Rattle.accepted.proofs.Joins.{prefix_short, prefix_length, bare_ready, held_replied}
use Rattle.accepted.proofs.pieces.answer_held.Goals as goal

pub whole_line-size-requires : goal.whole_line-size-requires
whole_line-size-requires c = (search rules, (search line_short, search rules))

pub slice_bounds-answer_line-end : goal.slice_bounds-answer_line-end
slice_bounds-answer_line-end c = search (prefix_length, rules)

pub answer_line-requires : goal.answer_line-requires
answer_line-requires c = let lines = c.args.lines.now in
    let z = brief_sized c.args.state.clients c.well_formed.1.1.1.0.1.1.0 lines in (
      bare_ready _ (lined c.args.state lines) _ _ _ c.args.time c.requires.0 c.args.bytes.now z c.requires.1.1 _
          c.ended.ensures _ c.line_counted-counted.ensures,
      (c.requires.1.0, prefix_short _ _ c.whole_line-size.ensures.0),
    )

pub returns : goal.returns
returns c = let lines = c.args.lines.now in
    let z = brief_sized c.args.state.clients c.well_formed.1.1.1.0.1.1.0 lines in
    held_replied _ (lined c.args.state lines) _ _ _ c.args.time c.requires.0 c.args.bytes.now z c.requires.1.1 _
    c.ended.ensures _ c.line_counted-counted.ensures _ c.whole_line-size.ensures.1 _ c.answer_line.ensures
