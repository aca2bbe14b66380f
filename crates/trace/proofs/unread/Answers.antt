-- `trace::unread` meets its contract. Assumes nothing.
use mathlib.Core.Path.{refl}
use Rattle.trace.specs.Trace.{judge}
use Rattle.trace.proofs.unread.Goals as goal

pub returns : goal.returns
unfolding judge
returns c = (refl, record { is = λ h. refl })
