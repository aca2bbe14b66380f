-- `examples::broken_sensor` promises the theorem of `Examples`. Assumes nothing.
use mathlib.Core.Path.{refl}
use Rattle.examples.proofs.Examples.{broken_sensor}
use Rattle.examples.proofs.broken_sensor.Goals as goal

pub returns : goal.returns
returns c = (refl, broken_sensor)
