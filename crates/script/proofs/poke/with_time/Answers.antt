-- `script::poke::with_time` meets its contract. Assumes nothing.
use Rattle.script.proofs.Changed.{time_past, time_set}
use Rattle.script.proofs.poke.with_time.Goals as goal

pub returns-then-parameter-gt-LAST_PARAMETER : goal.returns-then-parameter-gt-LAST_PARAMETER
returns-then-parameter-gt-LAST_PARAMETER c = search time_past

pub returns : goal.returns
returns c = search time_set
