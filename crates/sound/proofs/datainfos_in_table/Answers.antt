-- `sound::datainfos_in_table` promises the theorem of `Accepted`. Assumes nothing.
use mathlib.Core.Path.{refl}
use Rattle.sound.proofs.Accepted.{datainfos_in_table}
use Rattle.sound.proofs.datainfos_in_table.Goals as goal

pub returns : goal.returns
returns c = (refl, datainfos_in_table)
