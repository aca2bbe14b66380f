use Prim.Native.Nat.{◌+◌, ◌-◌, ◌≤◌}
use mathlib.Core.Path.{◌≡◌}
use lib.ListN.{length}
use native.Mathlib.Omega.{arith}
use Rattle.fit.proofs.Walks.{inside_ends, inside_at}
use Rattle.fit.proofs.Objects.{count_first, count_none, count_over, count_more, as_counted, counted_one}
use Rattle.fit.proofs.object.count_key.Goals as goal

pub loop-init : goal.loop-init
loop-init c = (search inside_ends, (omega arith, search count_first))

pub returns-in_default : goal.returns-in_default
returns-in_default c = count_none _ _ _ _ _ _ _ c.loop.invariant.1.1 c.in_default.is

pub key_at-requires : goal.key_at-requires
key_at-requires c = search inside_at

pub next_member-member-requires : goal.next_member-member-requires
next_member-member-requires c = search inside_at

pub loop-preserved : goal.loop-preserved
loop-preserved c = let e : length c.args.v.now - (c.loop.counter + 1) ≡ length c.args.v.now - c.loop.counter - 1 = omega arith in let h : c.from-n.result ≤ 1 = counted_one _ _ c.from-n.ensures in (search inside_ends, (omega (arith, h), rw e (search (count_more, as_counted))))

pub returns : goal.returns
returns c = let z : length c.args.v.now - c.loop.counter ≤ 0 = omega arith in count_over _ _ _ _ _ _ _ c.loop.invariant.1.1 z
