-- `script::poke::with_error` meets its contract. Assumes nothing.
use Rattle.script.proofs.Changed.{error_past, error_set}
use Rattle.script.proofs.poke.with_error.Goals as goal

pub returns-then-parameter-gt-LAST_PARAMETER : goal.returns-then-parameter-gt-LAST_PARAMETER
returns-then-parameter-gt-LAST_PARAMETER c = search error_past

pub returns : goal.returns
returns c = search error_set
