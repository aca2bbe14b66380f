-- `ascii::names::compare` meets its contract. Assumes nothing.
use native.Mathlib.Omega.{arith}
use Rattle.ascii.proofs.Compares.{compared_lengths, compared_first, compared_all, agree_start, agree_more}
use Rattle.ascii.proofs.names.compare.Goals as goal

pub returns-then-a-b : goal.returns-then-a-b
returns-then-a-b c = search compared_lengths

pub loop-i-init : goal.loop-i-init
loop-i-init c = agree_start _ _

pub returns-then-a-i : goal.returns-then-a-i
returns-then-a-i c = compared_first _ _ c.if-a-b.false c.loop-i.i record { within = c.loop-i-test.true; differs = c.if-a-i.true; before = c.loop-i.invariant }

pub loop-i-preserved : goal.loop-i-preserved
loop-i-preserved c = agree_more _ _ c.loop-i.i c.loop-i.invariant c.if-a-i.false

pub returns : goal.returns
returns c = compared_all _ _ c.if-a-b.false (λ j h. c.loop-i.invariant j (omega arith))
