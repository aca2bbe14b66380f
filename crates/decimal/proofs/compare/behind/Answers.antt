-- `decimal::compare::behind` meets its contract: past the byte that was looked for stands what follows it, and past the end nothing. Assumes nothing.
use native.Mathlib.Omega.{arith}
use Rattle.decimal.proofs.Values.{other, run_within, behind_is, behind_none}
use Rattle.decimal.proofs.compare.behind.Goals as goal

pub slice_bounds-result-count-else-at-s : goal.slice_bounds-result-count-else-at-s
slice_bounds-result-count-else-at-s c = let a = c.args in omega (arith, run_within (other a.x a.y) a.s.now)

pub slice_bounds-result-start-else-at-s : goal.slice_bounds-result-start-else-at-s
slice_bounds-result-start-else-at-s c = let a = c.args in omega (arith, run_within (other a.x a.y) a.s.now)

pub returns-then-at-s : goal.returns-then-at-s
returns-then-at-s c = let a = c.args in behind_is (other a.x a.y) a.s.now _ c.until-at.ensures

pub returns-else-at-s : goal.returns-else-at-s
returns-else-at-s c = let a = c.args in behind_none (other a.x a.y) a.s.now _ c.until-at.ensures c.if-at-s.false
