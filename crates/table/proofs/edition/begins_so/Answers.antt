-- `table::edition::begins_so` meets its contract. Assumes nothing.
use Rattle.table.proofs.Records.{front_begins}
use Rattle.ascii.specs.Text.{bytes}
use mathlib.Core.Path.{◌∙◌}
use Rattle.table.proofs.edition.begins_so.Goals as goal

pub returns : goal.returns
unfolding bytes
returns c = c.starts_with.ensures.value ∙ front_begins c.args.text.now _
