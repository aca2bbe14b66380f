use mathlib.Core.Path.{refl}
use Rattle.state.specs.Clauses.Counted.{sent_counted}
use Rattle.state.proofs.Counted.{sent_step}
use Rattle.state.proofs.count.sent_counted.Goals as goal

pub loop-c-init : goal.loop-c-init
unfolding sent_counted
loop-c-init c = λ rs h. refl

pub loop-c-preserved : goal.loop-c-preserved
loop-c-preserved c = search sent_step
