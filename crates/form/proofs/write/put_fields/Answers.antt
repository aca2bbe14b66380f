use native.Mathlib.Omega.{arith}
use Rattle.ascii.proofs.Bytes.{ended_within}
use Rattle.datainfo.proofs.Own.{unsigned_within}
use Rattle.form.proofs.Rows.{not_first}
use Rattle.form.proofs.Listed.{table_short, table_first, table_over, table_bad, table_more}
use Rattle.form.proofs.write.put_fields.Goals as goal

pub returns-in_default : goal.returns-in_default
returns-in_default c = search table_short

pub loop-n-init : goal.loop-n-init
loop-n-init c = (search unsigned_within, table_first _ _ _ _ _ c.unsigned.ensures _ _ c.in-Some.is _ _ (omega arith) _ (omega arith))

pub returns-in_default-field_end : goal.returns-in_default-field_end
returns-in_default-field_end c = search (arith, table_bad)

pub loop-n-preserved : goal.loop-n-preserved
loop-n-preserved c = (search ended_within, search (arith, table_more, not_first))

pub returns : goal.returns
returns c = search (arith, table_over)
