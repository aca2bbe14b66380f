use Rattle.describe.proofs.Reported.{accessibles_start, accessibles_end, accessibles_bad, accessibles_next}
use native.Mathlib.Omega.{arith}
use borrow.Author.Rules.{rules}
use mathlib.Core.Path.{refl}
use Rattle.ascii.proofs.Bytes.{ended_within}
use Rattle.table.proofs.Modules.{accessibles_less}
use Rattle.describe.proofs.structure.emit_accessibles.Goals as goal

pub loop-e-init : goal.loop-e-init
loop-e-init c = (omega arith, refl, omega arith, search accessibles_start)

pub returns-in_default : goal.returns-in_default
returns-in_default c = search accessibles_bad

pub loop-e-smaller : goal.loop-e-smaller
loop-e-smaller c = search accessibles_less

pub loop-e-preserved : goal.loop-e-preserved
loop-e-preserved c = (search ended_within, search rules, omega arith, search accessibles_next)

pub returns : goal.returns
returns c = search accessibles_end
