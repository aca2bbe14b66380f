-- `infos::emit_double` meets its contract. Assumes nothing.
use Rattle.infos.proofs.Infos.{double_none, double_one, double_told}
use Rattle.datainfo.proofs.Own.{limit_within}
use Rattle.ascii.specs.Text.{bytes}
use Rattle.infos.proofs.emit_double.Goals as goal

pub returns-in_default : goal.returns-in_default
returns-in_default c = search double_none

pub limit_at-requires-2 : goal.limit_at-requires-2
limit_at-requires-2 c = search limit_within

pub returns-in_default-limit_at : goal.returns-in_default-limit_at
returns-in_default-limit_at c = search double_one

pub returns : goal.returns
unfolding bytes
returns c = search double_told
