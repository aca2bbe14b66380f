-- `decimal::compare::until` meets its contract. The loop's invariant: as many bytes as were passed, and those that follow them up to
-- the byte that is looked for. Assumes nothing.
use Prim.Native.Nat.{◌+◌, ◌≤◌}
use mathlib.Core.Path.{◌≡◌}
use lib.ListN.{length, drop}
use Rattle.decimal.proofs.Values.{other, run}
use Rattle.decimal.proofs.compare.until.Given as goal

abbrev pub invariant-loop-i : goal.invariant-loop-i
invariant-loop-i l = (l.i ≤ length l.s) × (run (other l.x l.y) l.s ≡ l.i + run (other l.x l.y) (drop l.i l.s))
