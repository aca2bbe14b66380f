-- `fit::member::number_of` meets its contract. The invariant: what is asked of all members is asked of those from `member` on. Assumes nothing.
use lib.ListN.{length}
use Prim.Native.Nat.{◌-◌, ◌≤◌}
use Rattle.fit.proofs.Choices.{NumberAt}
use Rattle.fit.proofs.member.number_of.Given as goal

abbrev pub invariant-loop : goal.invariant-loop
invariant-loop l = (l.member ≤ length l.s) × NumberAt l.s l.i l.name l.member (l.count - l.counter)
