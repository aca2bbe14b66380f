use borrow.Author.Rules.{rules}
use native.Mathlib.Omega.{arith}
use mathlib.Core.Path.{refl}
use Rattle.ascii.proofs.Bytes.{ended_within}
use Rattle.datainfo.proofs.Own.{unsigned_within}
use Rattle.infos.proofs.Own.{names_short, names_first, names_over, names_bad, names_put, names_passed}
use Rattle.infos.proofs.emit_names.Goals.{then-byte-eq1, else-byte-eq1}
use Rattle.infos.proofs.emit_names.Goals as goal

pub unsigned-requires : goal.unsigned-requires
unsigned-requires c = (omega arith, omega arith)

pub returns-in_default : goal.returns-in_default
returns-in_default c = search names_short

pub loop-init : goal.loop-init
loop-init c = (search unsigned_within, refl, omega arith, names_first _ _ _ c.unsigned.ensures _ _ c.in-Some.is _ (omega arith) _ _ (omega arith))

pub returns-in_default-field_end : goal.returns-in_default-field_end
returns-in_default-field_end c = search (arith, names_bad)

pub loop-preserved : goal.loop-preserved
loop-preserved c = elim c.if-byte-eq1.branch [
  | then-byte-eq1 w ↦ rw (w.out-is, w.p-is, w.first-is)
      (search ended_within, search rules, omega arith, search (arith, names_put))
  | else-byte-eq1 w ↦ rw (w.out-is, w.p-is, w.first-is)
      (search ended_within, search rules, omega arith, names_passed _ _ _ _ _ _ _ _ _ c.loop.invariant.3 (omega arith) _ c.field_end.ensures _ c.byte.ensures _ c.in-Some-field_end.is _ (omega arith) w.if-byte-eq1.false c.loop.invariant.2)
]

pub returns : goal.returns
returns c = search (arith, names_over)
