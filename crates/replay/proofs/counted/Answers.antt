-- `replay::counted` meets its contract. Assumes nothing.
use Rattle.replay.proofs.Answers.{not_counted, is_counted}
use Rattle.replay.proofs.counted.Goals as goal

pub returns-then-number-eq0 : goal.returns-then-number-eq0
returns-then-number-eq0 c = search not_counted

pub returns : goal.returns
returns c = search is_counted
