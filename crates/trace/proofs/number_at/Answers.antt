-- `trace::number_at` meets its contract: the bytes are there. Assumes nothing.
use Rattle.trace.proofs.Judging.{never_short, number_read}
use Rattle.trace.proofs.number_at.Goals as goal

pub returns-in-Some : goal.returns-in-Some
returns-in-Some c = search number_read

pub returns-in-None : goal.returns-in-None
returns-in-None c = never_short _ _ _ c.requires.0 _ c.unsigned.ensures c.in-None.is
