use Prim.Native.Nat.{◌-◌}
use native.Mathlib.Omega.{arith}
use Rattle.summary.specs.Clauses.Tells.{count_at}
use Rattle.summary.proofs.Texts.{Counting, counting_start, counting_on, counting_room, counting_length, counting_end}
use Rattle.summary.proofs.put_refusals.Goals as goal

pub loop-k-init : goal.loop-k-init
loop-k-init c = search counting_start

pub put_refused-end-requires : goal.put_refused-end-requires
put_refused-end-requires c = counting_room _ _ _ c.loop-k.invariant c.loop-k-test.true

pub loop-k-preserved : goal.loop-k-preserved
loop-k-preserved c = counting_on _ _ _ c.loop-k.invariant c.loop-k-test.true c.put_refused-end.ensures.1 c.put_refused-end.ensures.0

pub shape_of-out : goal.shape_of-out
shape_of-out c = counting_length _ _ _ c.loop-k.invariant

pub returns : goal.returns
returns c = counting_end _ _ _ c.loop-k.invariant c.loop-k-test.false
