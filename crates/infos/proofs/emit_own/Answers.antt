-- `infos::emit_own` meets its contract. Assumes nothing.
use Rattle.datainfo.proofs.Own.{unsigned_within}
use Rattle.infos.proofs.Own.{own_short_lem, own_eleven, own_other}
use Rattle.infos.proofs.emit_own.Goals as goal

pub returns-in_default : goal.returns-in_default
returns-in_default c = search own_short_lem

pub emit_partial-requires : goal.emit_partial-requires
emit_partial-requires c = search unsigned_within

pub returns-then-k-eq11 : goal.returns-then-k-eq11
returns-then-k-eq11 c = search own_eleven

pub returns : goal.returns
returns c = search own_other
