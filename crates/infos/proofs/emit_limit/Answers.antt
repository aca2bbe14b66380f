-- `infos::emit_limit` meets its contract. Assumes nothing.
use Rattle.infos.proofs.Infos.{power_wide, limit_whole, limit_power}
use Rattle.ascii.specs.Text.{bytes}
use Rattle.infos.proofs.emit_limit.Goals as goal

pub returns-then-p-eq0 : goal.returns-then-p-eq0
returns-then-p-eq0 c = search limit_whole

pub overflow_cast-p : goal.overflow_cast-p
overflow_cast-p c = search power_wide

pub returns : goal.returns
unfolding bytes
returns c = search limit_power
