-- `datainfo::layout::named_end` meets its contract. Assumes nothing.
use Rattle.ascii.proofs.Bytes.{ended_within}
use Rattle.datainfo.proofs.Ends.{named_flagless, named_past}
use Rattle.datainfo.proofs.layout.named_end.Goals as goal

pub returns-in_err-flag_end : goal.returns-in_err-flag_end
returns-in_err-flag_end c = rw c.from_residual.ensures (search (named_flagless, c.in_err-flag_end.was))

pub counted_end-requires : goal.counted_end-requires
counted_end-requires c = search (ended_within, c.in_ok-flag_end.was)

pub returns : goal.returns
returns c = search (named_past, c.in_ok-flag_end.was)
