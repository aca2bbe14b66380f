-- `accepted::pieces::answer_counted` meets its contract. Assumes nothing.
use native.Mathlib.Omega.{arith}
use Rattle.state.specs.Clauses.Bare.{lined}
use Rattle.state.proofs.Becomes.{brief_sized}
use Rattle.accepted.proofs.Joins.{replied_few, replied_counted}
use Rattle.accepted.proofs.pieces.answer_counted.Goals as goal

pub sent_counted-next-requires : goal.sent_counted-next-requires
sent_counted-next-requires c = let lines = c.args.lines.now in
    let z = brief_sized c.args.state.clients c.well_formed.1.1.1.0.1.1.0 lines in
    let few = replied_few _ (lined c.args.state lines) _ _ _ c.args.time c.requires.0 c.args.bytes.now z c.requires.1.0
    c.requires.1.1.1 _ c.answer_held-replied.ensures in
    omega (arith, few)

pub returns : goal.returns
returns c = let lines = c.args.lines.now in
    let z = brief_sized c.args.state.clients c.well_formed.1.1.1.0.1.1.0 lines in
    replied_counted _ (lined c.args.state lines) _ _ _ c.args.time c.requires.0 c.args.bytes.now z c.requires.1.0
    c.requires.1.1.1 _ c.answer_held-replied.ensures _ c.sent_counted-next.ensures
