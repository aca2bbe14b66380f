-- `access::command::null_verdict` meets its contract. Assumes nothing.
use Rattle.access.proofs.Nulls.{null_bad, null_fits, null_wrong}
use Rattle.access.proofs.command.null_verdict.Goals as goal

pub returns-then-not-is_text : goal.returns-then-not-is_text
returns-then-not-is_text c = search null_bad

pub returns-in-110 : goal.returns-in-110
returns-in-110 c = search null_fits

pub returns-in_default : goal.returns-in_default
returns-in_default c = search null_wrong
