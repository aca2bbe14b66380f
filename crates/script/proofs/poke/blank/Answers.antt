-- `script::poke::blank` meets its contract. Assumes nothing.
use mathlib.Core.Path.{refl}
use Rattle.promise.specs.Promise.{blank}
use Rattle.script.proofs.poke.blank.Goals as goal

pub returns : goal.returns
unfolding blank
returns c = refl
