use Rattle.describe.proofs.Reported.{modules_start, modules_end, modules_bad, modules_next}
use native.Mathlib.Omega.{arith}
use borrow.Author.Rules.{rules}
use mathlib.Core.Path.{refl}
use Rattle.ascii.proofs.Bytes.{ended_within}
use Rattle.table.proofs.Modules.{modules_less}
use Rattle.describe.proofs.structure.emit_modules.Goals as goal

pub loop-e-init : goal.loop-e-init
loop-e-init c = (omega arith, refl, omega arith, search modules_start)

pub returns-in_default : goal.returns-in_default
returns-in_default c = search modules_bad

pub loop-e-smaller : goal.loop-e-smaller
loop-e-smaller c = search modules_less

pub loop-e-preserved : goal.loop-e-preserved
loop-e-preserved c = (search ended_within, search rules, omega arith, search modules_next)

pub returns : goal.returns
returns c = search modules_end
