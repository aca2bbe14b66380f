-- `datainfo::layout::field_end` meets its contract. Assumes nothing.
use Rattle.ascii.proofs.Bytes.{ended_within}
use Rattle.datainfo.proofs.Structs.{field_nameless, field_past}
use Rattle.datainfo.proofs.layout.field_end.Goals as goal

pub returns-in_err-named_end : goal.returns-in_err-named_end
returns-in_err-named_end c = rw c.from_residual.ensures (search (field_nameless, c.in_err-named_end.was))

pub datainfo_end-requires : goal.datainfo_end-requires
datainfo_end-requires c = search (ended_within, c.in_ok-named_end.was)

pub returns : goal.returns
returns c = search (field_past, c.in_ok-named_end.was)
