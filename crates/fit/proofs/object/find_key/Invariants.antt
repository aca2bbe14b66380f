-- `fit::object::find_key` meets its contract. The invariant: members are left where the walk stands, after those that do not have the key. Assumes nothing.
use Prim.Native.Nat.{◌-◌}
use lib.ListN.{length}
use Rattle.fit.proofs.Walks.{Inside}
use Rattle.fit.proofs.Objects.{FindAt}
use Rattle.fit.proofs.object.find_key.Given as goal

abbrev pub invariant-loop : goal.invariant-loop
invariant-loop l = Inside l.v l.member × FindAt l.depth l.v l.p l.name l.member (length l.v - l.counter)
