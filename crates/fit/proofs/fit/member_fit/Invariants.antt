-- `fit::fit::member_fit` meets its contract. The invariant: of the members from the first on, those from `i` on are left, and none before is t. Assumes nothing.
use lib.ListN.{length}
use Prim.Native.Nat.{◌-◌, ◌≤◌}
use Rattle.fit.proofs.Figures.{Members}
use Rattle.fit.proofs.fit.member_fit.Given as goal

abbrev pub invariant-loop : goal.invariant-loop
invariant-loop l = (l.i ≤ length l.s) × Members l.s l.at l.t l.i (l.members - l.counter)
