-- `state::bits::is_past` meets its contract: the code is the definition. Assumes nothing.
use Rattle.state.specs.Fit.{past_last}
use mathlib.Core.Path.{refl}
use Rattle.state.proofs.bits.is_past.Goals as goal

pub returns : goal.returns
unfolding past_last
returns c = refl
