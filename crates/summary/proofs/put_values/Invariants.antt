-- `summary::put_values` meets its contract. The loop's invariant: the lines of the first k parameters are written. Assumes nothing.
use borrow.Author.Rules.{rules}
use native.Mathlib.Omega.{arith}
use Prim.Native.Nat.{◌-◌, ◌≤◌}
use Rattle.report.proofs.Faults.{accepted_readable}
use Rattle.state.specs.View.{view}
use Rattle.summary.proofs.Shown.{Sent, sent_start, sent_way, sent_length, sent_all, sent_end, sent_on, next_shows}
use Rattle.summary.proofs.put_values.Given as goal

abbrev pub invariant-loop-k : goal.invariant-loop-k
invariant-loop-k l = (l.k ≤ 64) × Sent l.table l.settings l.values l.initial.out l.k l.cursor l.out l.end
