-- `fit::fit::blob_fit` meets its contract: a string is known by its first byte. Assumes nothing.
use Rattle.fit.proofs.Plain.{blob_other, blob_quoted}
use Rattle.fit.proofs.fit.blob_fit.Goals as goal

pub returns-then-byte-ne34 : goal.returns-then-byte-ne34
returns-then-byte-ne34 c = search blob_other

pub returns : goal.returns
returns c = search blob_quoted
