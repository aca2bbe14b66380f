use native.Mathlib.Omega.{arith}
use Rattle.replay.proofs.Feeding.{feeding_start, feeding_used, feeding_less, feeding_on, feeding_end}
use Rattle.replay.proofs.feed.Goals as goal

pub loop-values-init : goal.loop-values-init
loop-values-init c = search feeding_start

pub advance-at-requires : goal.advance-at-requires
advance-at-requires c = c.loop-values.invariant.sound

pub overflow_add-at : goal.overflow_add-at
overflow_add-at c = let used = feeding_used c.loop-values.invariant _ c.is_unfinished.ensures c.advance-at.ensures in
    omega (arith, used, c.well_formed.1.1.1.1.0.0)

pub loop-values-smaller : goal.loop-values-smaller
loop-values-smaller c = feeding_less c.loop-values.invariant _ c.is_unfinished.ensures c.advance-at.ensures c.loop-values-test.true

pub loop-values-preserved : goal.loop-values-preserved
loop-values-preserved c = feeding_on c.loop-values.invariant _ c.is_unfinished.ensures c.advance-at.ensures c.advance-at.auto.outbox
    c.advance-at.auto.values

pub shape_of-values : goal.shape_of-values
shape_of-values c = c.loop-values.invariant.same

pub shape_of-outbox : goal.shape_of-outbox
shape_of-outbox c = c.loop-values.invariant.lent

pub returns : goal.returns
returns c = feeding_end c.loop-values.invariant _ c.is_unfinished.ensures c.loop-values-test.false
