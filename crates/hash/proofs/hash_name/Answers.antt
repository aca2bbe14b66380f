-- `hash::hash_name` meets its contract. Assumes nothing.
use Rattle.hash.proofs.Hashes.{hash_parts}
use Rattle.hash.proofs.hash_name.Goals as goal

pub returns : goal.returns
returns c = search hash_parts
