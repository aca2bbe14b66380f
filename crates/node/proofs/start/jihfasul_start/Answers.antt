-- `node::start::jihfasul_start` meets its contract. Assumes nothing.
use Prim.Native.Nat.{◌≤◌}
use native.Mathlib.Omega.{arith}
use Rattle.ascii.specs.Numbers.{latest}
use Rattle.node.proofs.Begun.{start_table, start_area, start_late, start_good}
use Rattle.node.proofs.start.jihfasul_start.Goals as goal

pub returns-then-number-ne0 : goal.returns-then-number-ne0
returns-then-number-ne0 c = search start_table

pub returns-then-values-lt-VALUES : goal.returns-then-values-lt-VALUES
returns-then-values-lt-VALUES c = search start_area

pub returns-then-time-gt-LATEST : goal.returns-then-time-gt-LATEST
returns-then-time-gt-LATEST c = search start_late

pub returns : goal.returns
returns c =
    let timely : c.args.time ≤ latest = omega arith in
    search (start_good, timely)
