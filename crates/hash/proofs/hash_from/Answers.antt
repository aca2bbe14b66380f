use Rattle.hash.proofs.Hashes.{from_more, from_end}
use Rattle.hash.proofs.hash_from.Goals as goal

pub loop-b-preserved : goal.loop-b-preserved
loop-b-preserved c = search from_more

pub returns : goal.returns
returns c = search from_end
