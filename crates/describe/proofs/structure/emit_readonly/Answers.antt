-- `describe::structure::emit_readonly` meets its contract. Assumes nothing.
use Rattle.describe.proofs.Reported.{readonly_true, readonly_false}
use Rattle.ascii.specs.Text.{bytes}
use Rattle.describe.proofs.structure.emit_readonly.Goals as goal

pub returns-then-readonly : goal.returns-then-readonly
unfolding bytes
returns-then-readonly c = search readonly_true

pub returns-else-readonly : goal.returns-else-readonly
unfolding bytes
returns-else-readonly c = search readonly_false
