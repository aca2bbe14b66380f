use Prim.Native.Nat.{◌+◌, ◌-◌, ◌≤◌}
use mathlib.Core.Path.{◌≡◌}
use lib.ListN.{length}
use native.Mathlib.Omega.{arith}
use Rattle.fit.proofs.Walks.{inside_ends, inside_at}
use Rattle.fit.proofs.Objects.{find_first, find_none, find_over, find_hit, find_more}
use Rattle.fit.proofs.object.find_key.Goals as goal

pub loop-init : goal.loop-init
loop-init c = (search inside_ends, search find_first)

pub returns-in_err-i : goal.returns-in_err-i
returns-in_err-i c = rw c.from_residual.ensures (search (find_none, c.in_err-i.was))

pub key_at-requires : goal.key_at-requires
key_at-requires c = search (inside_at, c.in_ok-i.was)

pub member_value-requires : goal.member_value-requires
member_value-requires c = search (inside_at, c.in_ok-i.was)

pub returns-then-same : goal.returns-then-same
returns-then-same c = search (find_hit, c.in_ok-i.was)

pub next_member-member-requires : goal.next_member-member-requires
next_member-member-requires c = search (inside_at, c.in_ok-i.was)

pub loop-preserved : goal.loop-preserved
loop-preserved c = let e : length c.args.v.now - (c.loop.counter + 1) ≡ length c.args.v.now - c.loop.counter - 1 = omega arith in (search inside_ends, rw e (search (find_more, c.in_ok-i.was)))

pub returns : goal.returns
returns c = let z : length c.args.v.now - c.loop.counter ≤ 0 = omega arith in search find_over
