use native.Mathlib.Omega.{arith}
use Rattle.ascii.proofs.Bytes.{ended_within}
use Rattle.datainfo.proofs.Own.{unsigned_within}
use Rattle.form.proofs.Fields.{sought_short, sought_first, sought_over, sought_nameless, sought_hit, sought_bad, sought_more}
use Rattle.form.proofs.write.field_at.Goals as goal

pub returns-in_err-count : goal.returns-in_err-count
returns-in_err-count c = rw c.from_residual.ensures (search (sought_short, c.in_err-count.was))

pub loop-init : goal.loop-init
loop-init c = (search (unsigned_within, c.in_ok-count.was), search (arith, sought_first, c.in_ok-count.was))

pub returns-in_err-inner : goal.returns-in_err-inner
returns-in_err-inner c = rw c.from_residual-in_err-inner.ensures (search (arith, sought_nameless, c.in_err-inner.was))

pub returns-then-same : goal.returns-then-same
returns-then-same c = search (arith, sought_hit, c.in_ok-inner.was)

pub returns-in_err-field : goal.returns-in_err-field
returns-in_err-field c = rw c.from_residual-in_err-field.ensures (search (arith, sought_bad, c.in_ok-inner.was, c.in_err-field.was))

pub loop-preserved : goal.loop-preserved
loop-preserved c = (search (ended_within, c.in_ok-field.was), search (arith, sought_more, c.in_ok-inner.was, c.in_ok-field.was))

pub returns : goal.returns
returns c = search (arith, sought_over)
