-- `script::poke::with_length` meets its contract. Assumes nothing.
use Rattle.script.proofs.Changed.{length_past, length-set}
use Rattle.script.proofs.poke.with_length.Goals as goal

pub returns-then-parameter-gt-LAST_PARAMETER : goal.returns-then-parameter-gt-LAST_PARAMETER
returns-then-parameter-gt-LAST_PARAMETER c = search length_past

pub returns : goal.returns
returns c = search length-set
