-- `fit::fit::characters_fit` meets its contract: the characters, then their count. Assumes nothing.
use Rattle.fit.proofs.Plain.{string_high, string_low}
use Rattle.fit.proofs.fit.characters_fit.Goals as goal

pub returns-then-all_low : goal.returns-then-all_low
returns-then-all_low c = search string_low

pub returns : goal.returns
returns c = search string_high
