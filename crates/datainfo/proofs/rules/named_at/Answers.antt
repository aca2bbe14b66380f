-- `datainfo::rules::named_at` meets its contract. Assumes nothing.
use Rattle.ascii.proofs.Bytes.{ended_within}
use Rattle.datainfo.proofs.Keys.{in_flagless, in_past}
use Rattle.datainfo.proofs.rules.named_at.Goals as goal

pub returns-in_default : goal.returns-in_default
returns-in_default c = search in_flagless

pub name_at-requires : goal.name_at-requires
name_at-requires c = search ended_within

pub returns : goal.returns
returns c = search in_past
