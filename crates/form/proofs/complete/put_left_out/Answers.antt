use native.Mathlib.Omega.{arith}
use Rattle.ascii.proofs.Bytes.{ended_within}
use Rattle.datainfo.proofs.Own.{unsigned_within}
use Rattle.form.proofs.Merged.{kept_short, kept_first, kept_over, kept_bad, kept_put, kept_passed}
use Rattle.form.proofs.complete.put_left_out.Goals.{then-is_left_out, else-is_left_out}
use Rattle.form.proofs.complete.put_left_out.Goals as goal

pub returns-in_default : goal.returns-in_default
returns-in_default c = search kept_short

pub loop-init : goal.loop-init
loop-init c = (search unsigned_within, omega arith, kept_first _ _ _ _ _ c.unsigned.ensures _ _ c.in-Some.is _ _ (omega arith) _ (omega arith))

pub returns-in_default-field_end : goal.returns-in_default-field_end
returns-in_default-field_end c = search (arith, kept_bad)

pub loop-preserved : goal.loop-preserved
loop-preserved c = elim c.if-is_left_out.branch [
  | then-is_left_out w ↦ rw (w.out-is, w.a-is, w.start-is)
      (search ended_within, omega arith, search (arith, kept_put))
  | else-is_left_out w ↦ rw (w.out-is, w.a-is, w.start-is)
      (search ended_within, omega arith, search (arith, kept_passed))
]

pub returns : goal.returns
returns c = search (arith, kept_over)
