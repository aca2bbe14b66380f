-- `state::client::has_feed` meets its contract. Assumes nothing.
use mathlib.Core.Path.{◌∙◌}
use lib.Dec.{eqb}
use Rattle.state.proofs.Judged.{any_is}
use Rattle.state.proofs.client.has_feed.Goals as goal

pub returns : goal.returns
returns c = c.contains.ensures.value ∙ any_is (λ b. eqb b 10) c.args.bytes.now
