use Prim.Native.Nat.{◌+◌, ◌-◌, ◌≤◌}
use mathlib.Core.Path.{◌≡◌}
use lib.ListN.{length}
use native.Mathlib.Omega.{arith}
use Rattle.fit.proofs.Walks.{inside_ends, inside_at}
use Rattle.fit.proofs.Objects.{known_first, known_none, known_over, known_other, known_more}
use Rattle.fit.proofs.object.keys_known.Goals as goal

pub loop-init : goal.loop-init
loop-init c = (search inside_ends, search known_first)

pub returns-in_default : goal.returns-in_default
returns-in_default c = search known_none

pub key_at-requires : goal.key_at-requires
key_at-requires c = search inside_at

pub next_member-member-requires : goal.next_member-member-requires
next_member-member-requires c = search inside_at

pub loop-preserved : goal.loop-preserved
loop-preserved c = let e : length c.args.v.now - (c.loop.counter + 1) ≡ length c.args.v.now - c.loop.counter - 1 = omega arith in (search inside_ends, rw e (search known_more))

pub returns-then-not-is_field : goal.returns-then-not-is_field
returns-then-not-is_field c = search known_other

pub returns : goal.returns
returns c = let z : length c.args.v.now - c.loop.counter ≤ 0 = omega arith in search known_over
