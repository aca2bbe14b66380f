-- `replay::advance` meets its contract. Assumes nothing.
use borrow.Author.Rules.{rules}
use Rattle.replay.proofs.Steps.{offers_again, nothing_whole, has_room, plays}
use Rattle.replay.proofs.advance.Goals as goal

pub returns-then-replay-ne0 : goal.returns-then-replay-ne0
returns-then-replay-ne0 c = search offers_again

pub offered-written-requires-in-Whole : goal.offered-written-requires-in-Whole
offered-written-requires-in-Whole c = (search has_room, search rules)

pub returns-in-More : goal.returns-in-More
returns-in-More c = search nothing_whole

pub returns-in-Whole : goal.returns-in-Whole
returns-in-Whole c = plays _ c.args.replay.now _ _ _ c.requires c.if-replay-ne0.false c.take-taken.result c.take-taken.ensures _ c.in-Whole.is _ _ _ _
    c.offered-written-in-Whole.ensures
