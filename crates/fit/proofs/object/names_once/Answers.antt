use Prim.Native.Nat.{◌+◌, ◌-◌, ◌≤◌, ◌<◌}
use mathlib.Core.Path.{◌≡◌}
use Rattle.ascii.proofs.Bytes.{ended_within}
use Rattle.datainfo.proofs.Own.{unsigned_within}
use native.Mathlib.Omega.{arith}
use Rattle.fit.proofs.Objects.{once_short, once_first, once_over, once_wrong, once_bad, once_more}
use Rattle.fit.proofs.object.names_once.Goals as goal

pub unsigned-requires : goal.unsigned-requires
unsigned-requires c = (omega arith, omega arith)

pub returns-in_default : goal.returns-in_default
returns-in_default c = search once_short

pub loop-init : goal.loop-init
loop-init c = let z : c.in-Some.count - 0 ≡ c.in-Some.count = omega arith in (search unsigned_within, rw z (search once_first))

pub returns-then-count_key-ne1 : goal.returns-then-count_key-ne1
returns-then-count_key-ne1 c = let h : 0 < c.in-Some.count - c.loop.counter = omega arith in once_wrong _ _ _ _ _ _ _ c.loop.invariant.1 h _ _ c.named_at.ensures c.count_key.ensures c.if-count_key-ne1.true

pub returns-in_default-field_end : goal.returns-in_default-field_end
returns-in_default-field_end c = let h : 0 < c.in-Some.count - c.loop.counter = omega arith in search once_bad

pub loop-preserved : goal.loop-preserved
loop-preserved c = let h : 0 < c.in-Some.count - c.loop.counter = omega arith in let e : c.in-Some.count - (c.loop.counter + 1) ≡ c.in-Some.count - c.loop.counter - 1 = omega arith in (search ended_within, rw e (once_more _ _ _ _ _ _ _ c.loop.invariant.1 h _ c.field_end.ensures _ c.in-Some-field_end.is _ _ c.named_at.ensures c.count_key.ensures c.if-count_key-ne1.false))

pub returns : goal.returns
returns c = let z : c.in-Some.count - c.loop.counter ≤ 0 = omega arith in search once_over
