-- `state::client::is_open_lem` meets its contract: the code is the definition. Assumes nothing.
use Rattle.state.specs.View.{is_set}
use mathlib.Core.Path.{refl}
use Rattle.state.proofs.client.is_open.Goals as goal

pub returns : goal.returns
unfolding is_set
returns c = refl
