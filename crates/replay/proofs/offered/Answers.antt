-- `replay::offered` meets its contract. Assumes nothing.
use borrow.Author.Rules.{rules}
use Rattle.std.proofs.Common.{◌≡◌, length}
use Rattle.replay.proofs.Answers.{offers}
use Rattle.replay.proofs.Choices.{made}
use Rattle.replay.proofs.offered.Goals as goal

pub figured-requires : goal.figured-requires
figured-requires c = (made c.call-done.ensures, search rules)

pub returns : goal.returns
returns c = let l : length c.args.replay.now.reader.held ≡ 4109 = search rules in
    offers l c.requires.0 c.call-done.ensures c.figured.ensures c.left_after-replay.ensures c.counted-replay.ensures
