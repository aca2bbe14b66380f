-- What came is played on, also where it is the last. Assumes nothing.
use Rattle.replay.proofs.Drives.{running_on}
use Rattle.night.proofs.feeding.feed_some.Goals as goal

pub returns-then-n-ne0 : goal.returns-then-n-ne0
returns-then-n-ne0 g c = search running_on

pub returns-else-n-ne0 : goal.returns-else-n-ne0
returns-else-n-ne0 g c = search running_on
