-- `fit::object::count_key` meets its contract. The invariant: members are left where the walk stands, after those of which n have the key. Assumes nothing.
use Prim.Native.Nat.{◌+◌, ◌-◌, ◌≤◌}
use lib.ListN.{length}
use Rattle.fit.proofs.Walks.{Inside}
use Rattle.fit.proofs.Objects.{CountAt}
use Rattle.fit.proofs.object.count_key.Given as goal

abbrev pub invariant-loop : goal.invariant-loop
invariant-loop l = Inside l.v l.member × ((l.n + (length l.v - l.counter) ≤ length l.v) × CountAt l.depth l.v l.p l.name l.n l.member (length l.v - l.counter))
