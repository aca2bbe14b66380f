-- `replay::is_unfinished` meets its contract. Assumes nothing.
use Rattle.replay.proofs.Feeding.{has_bytes, has_left}
use Rattle.replay.proofs.is_unfinished.Goals as goal

pub returns-then-bytes-ne0 : goal.returns-then-bytes-ne0
returns-then-bytes-ne0 c = search has_bytes

pub returns-else-bytes-ne0 : goal.returns-else-bytes-ne0
returns-else-bytes-ne0 c = search has_left
