-- `script::poke::with_counts` meets its contract. Assumes nothing.
use Rattle.script.proofs.Changed.{counts_past, counts_set}
use Rattle.script.proofs.poke.with_counts.Goals as goal

pub returns-then-client-gt-LAST_CLIENT : goal.returns-then-client-gt-LAST_CLIENT
returns-then-client-gt-LAST_CLIENT c = search counts_past

pub returns : goal.returns
returns c = search counts_set
