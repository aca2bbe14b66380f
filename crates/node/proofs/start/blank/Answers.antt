-- `node::start::blank` meets its contract. Assumes nothing.
use mathlib.Core.Path.{refl}
use Rattle.promise.specs.Promise.{blank}
use Rattle.node.proofs.start.blank.Goals as goal

pub returns : goal.returns
unfolding blank
returns c = refl
