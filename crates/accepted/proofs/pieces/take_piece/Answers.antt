-- `accepted::pieces::take_piece` meets its contract. Assumes nothing.
use borrow.Author.Rules.{rules}
use mathlib.Core.Path.{refl}
use Rattle.promise.proofs.Held.{line_short}
use Rattle.state.specs.Clauses.Bare.{lined}
use Rattle.state.proofs.Becomes.{brief_sized}
use Rattle.accepted.proofs.Joins.{feed_at, no_feed_at, taken_length, taken_unfed, piece_joins, piece_feeds}
use Rattle.accepted.proofs.pieces.take_piece.Goals as goal

pub join-requires : goal.join-requires
join-requires c = (search rules, (search line_short, search rules))

pub returns-in_default : goal.returns-in_default
returns-in_default c = let lines = c.args.lines.now in
    let z = brief_sized c.args.state.clients c.well_formed.1.1.1.0.1.1.0 lines in
    let first = no_feed_at _ _ c.feed_at.ensures c.in_default.not-Some in
    piece_joins _ (lined c.args.state lines) _ _ _ _ c.args.bytes.now c.requires.0 first z c.requires.1.1 refl _ _ c.join.ensures

pub slice_bounds-before-end : goal.slice_bounds-before-end
slice_bounds-before-end c = let first = feed_at _ _ c.feed_at.ensures _ c.in-Some.is in
    search (taken_length, first)

pub answer_counted-replied-requires : goal.answer_counted-replied-requires
answer_counted-replied-requires c = let first = feed_at _ _ c.feed_at.ensures _ c.in-Some.is in
    (search rules, (search rules, (search rules, search (taken_unfed, first))))

pub returns : goal.returns
returns c = let first = feed_at _ _ c.feed_at.ensures _ c.in-Some.is in
    piece_feeds _ (lined c.args.state c.args.lines.now) _ _ _ _ c.args.bytes.now c.requires.0 first.0
    first.1 refl _ _ c.answer_counted-replied.ensures
