-- `fit::fit::string_fit` meets its contract: a string is known by its first byte. Assumes nothing.
use Rattle.fit.proofs.Plain.{string_other, string_quoted}
use Rattle.fit.proofs.fit.string_fit.Goals as goal

pub returns-then-byte-ne34 : goal.returns-then-byte-ne34
returns-then-byte-ne34 c = search string_other

pub returns : goal.returns
returns c = search string_quoted
