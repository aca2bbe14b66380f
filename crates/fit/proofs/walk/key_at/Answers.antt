-- `fit::walk::key_at` meets its contract: a key is a string behind spaces. Assumes nothing.
use Rattle.fit.proofs.Walks.{key_quoted}
use Rattle.fit.proofs.walk.key_at.Goals as goal

pub returns : goal.returns
returns c = search key_quoted
