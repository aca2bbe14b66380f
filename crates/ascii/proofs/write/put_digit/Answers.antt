-- `ascii::write::put_digit` meets its contract. Assumes nothing.
use Rattle.ascii.specs.Numbers.{digit}
use Rattle.ascii.proofs.write.put_digit.Goals as goal

pub returns : goal.returns
unfolding digit
returns c = c.put_byte.ensures
