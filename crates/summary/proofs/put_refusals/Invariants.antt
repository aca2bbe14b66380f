-- `summary::put_refusals` meets its contract. The loop's invariant: the lines of the numbers below k are written. Assumes nothing.
use Prim.Native.Nat.{◌-◌}
use native.Mathlib.Omega.{arith}
use Rattle.summary.specs.Clauses.Tells.{count_at}
use Rattle.summary.proofs.Texts.{Counting, counting_start, counting_on, counting_room, counting_length, counting_end}
use Rattle.summary.proofs.put_refusals.Given as goal

abbrev pub invariant-loop-k : goal.invariant-loop-k
invariant-loop-k l = Counting l.initial.out l.at (count_at l.refused) l.k l.out l.end
