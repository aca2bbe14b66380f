-- `json_text::counts_never_cut` promises the theorem of `Enough`. Assumes nothing.
use mathlib.Core.Path.{refl}
use Rattle.json_text.proofs.Enough.{string_enough, items_enough, members_enough}
use Rattle.json_text.proofs.counts_never_cut.Goals as goal

pub returns : goal.returns
returns c = (refl, record { strings = string_enough; of_items = items_enough; of_members = members_enough })
