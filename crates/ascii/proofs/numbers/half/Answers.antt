-- `ascii::numbers::half` meets its contract: nothing is shifted out. Assumes nothing.
use Rattle.ascii.proofs.Endian.{half}
use Rattle.ascii.proofs.numbers.half.Goals as goal

pub returns : goal.returns
returns c = search half
