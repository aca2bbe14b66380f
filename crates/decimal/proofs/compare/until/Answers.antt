use mathlib.Core.Path.{◌≡◌, ◌∙◌}
use lib.ListN.{length}
use native.Mathlib.Omega.{arith}
use borrow.Author.Rules.{rules}
use Rattle.decimal.proofs.Values.{other, first, second, none, run_more, run_stop, run_over}
use Rattle.decimal.proofs.compare.until.Goals as goal

pub loop-i-init : goal.loop-i-init
loop-i-init c = (search rules, omega arith)

pub returns-then-b-x : goal.returns-then-b-x
returns-then-b-x c = let a = c.args in
    run_stop (other a.x a.y) a.s.now c.loop-i.i _ c.loop-i-test.true (first a.x a.y _ c.if-b-x.true) c.loop-i.invariant.1

pub returns-then-b-y : goal.returns-then-b-y
returns-then-b-y c = let a = c.args in
    run_stop (other a.x a.y) a.s.now c.loop-i.i _ c.loop-i-test.true
    (second a.x a.y _ c.if-b-x.false c.if-b-y.true) c.loop-i.invariant.1

pub loop-i-preserved : goal.loop-i-preserved
loop-i-preserved c = let a = c.args in (
  omega arith,
  run_more (other a.x a.y) a.s.now c.loop-i.i _ c.loop-i-test.true
      (none a.x a.y _ c.if-b-x.false c.if-b-y.false) c.loop-i.invariant.1,
)

pub returns : goal.returns
returns c = let a = c.args in
    let e : length a.s.now ≡ c.loop-i.i = omega arith in
    e ∙ run_over (other a.x a.y) a.s.now c.loop-i.i _ c.loop-i-test.false c.loop-i.invariant.1
