-- `fit::object::keys_known` meets its contract. The invariant: what is asked of all keys is asked of those where the walk stands. Assumes nothing.
use Rattle.datainfo.specs.Layout.{datainfo_in}
use Rattle.datainfo.specs.Clauses.Members.{members_at}
use Prim.Native.Nat.{◌-◌}
use lib.ListN.{length, drop}
use Rattle.fit.proofs.Walks.{Inside}
use Rattle.fit.proofs.Objects.{KnownAt}
use Rattle.fit.proofs.object.keys_known.Given as goal

abbrev pub invariant-loop : goal.invariant-loop
invariant-loop l = Inside l.v l.member × KnownAt (members_at (datainfo_in l.levels) l.k (drop l.at l.s)) l.depth l.v l.p l.member (length l.v - l.counter)
