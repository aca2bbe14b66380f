-- `summary::figured::put_figures` meets its contract. The loop's invariant: the lines of the first k parameters are written. Assumes nothing.
use Prim.Native.Nat.{◌-◌, ◌≤◌}
use native.Mathlib.Omega.{arith}
use borrow.Author.Rules.{rules}
use Rattle.report.proofs.Faults.{accepted_readable}
use Rattle.summary.proofs.Figuring.{Telling, telling_start, telling_way, telling_length, telling_end, telling_all, telling_placing, telling_on, figures_short}
use Rattle.summary.proofs.figured.put_figures.Given as goal

abbrev pub invariant-loop-k : goal.invariant-loop-k
invariant-loop-k l = (l.k ≤ 64) × Telling l.table l.figures l.initial.out l.k l.cursor l.out l.end
