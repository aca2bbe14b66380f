use mathlib.Core.Bool.{true}
use Prim.Native.Nat.{◌+◌, ◌-◌, ◌≤◌, ◌<◌}
use mathlib.Core.Path.{◌≡◌}
use Rattle.ascii.proofs.Bytes.{ended_within}
use Rattle.datainfo.proofs.Own.{unsigned_within}
use native.Mathlib.Omega.{arith}
use Rattle.fit.proofs.Objects.{fields_short, fields_first, fields_over, fields_decided, fields_bad, fields_more, named, unnamed, nameless}
use Rattle.fit.proofs.object.is_field.Goals as goal

pub unsigned-requires : goal.unsigned-requires
unsigned-requires c = (omega arith, omega arith)

pub returns-in_default : goal.returns-in_default
returns-in_default c = search fields_short

pub loop-init : goal.loop-init
loop-init c = let z : c.in-Some.count - 0 ≡ c.in-Some.count = omega arith in (search unsigned_within, rw z (search fields_first))

pub returns-then-same : goal.returns-then-same
returns-then-same c = let h : 0 < c.in-Some.count - c.loop.counter = omega arith in fields_decided _ _ _ _ _ _ _ c.loop.invariant.1 h true (named _ _ _ _ c.named_at.ensures _ c.same.ensures c.if-same.true)

pub returns-in_default-field_end : goal.returns-in_default-field_end
returns-in_default-field_end c = let h : 0 < c.in-Some.count - c.loop.counter = omega arith in search fields_bad

pub loop-preserved : goal.loop-preserved
loop-preserved c = let h : 0 < c.in-Some.count - c.loop.counter = omega arith in let e : c.in-Some.count - (c.loop.counter + 1) ≡ c.in-Some.count - c.loop.counter - 1 = omega arith in (search ended_within, rw e (fields_more _ _ _ _ _ _ _ c.loop.invariant.1 h _ c.field_end.ensures _ c.in-Some-field_end.is (unnamed _ _ _ _ c.named_at.ensures _ c.same.ensures c.if-same.false)))

pub returns : goal.returns
returns c = let z : c.in-Some.count - c.loop.counter ≤ 0 = omega arith in fields_over _ _ _ _ _ _ _ c.loop.invariant.1 z _ (nameless _)
