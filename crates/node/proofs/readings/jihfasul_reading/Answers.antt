-- `node::readings::jihfasul_reading` meets its contract. Assumes nothing.
use Rattle.node.proofs.Reading.{read_lent, read_lending, read_as}
use Rattle.node.proofs.readings.jihfasul_reading.Goals as goal

pub returns-then-number-ne0 : goal.returns-then-number-ne0
returns-then-number-ne0 c = search read_lent

pub read_one-done-requires : goal.read_one-done-requires
read_one-done-requires c = search read_lending

pub returns : goal.returns
returns c = search read_as
