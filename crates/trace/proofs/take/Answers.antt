use native.Mathlib.Omega.{arith}
use mathlib.Core.Path.{sym}
use Rattle.trace.proofs.Taking.{held_sized, begins_so, passes_over, going, leaves_room}
use Rattle.trace.proofs.Taking.{all_used, next_full, next_size, goes_further, is_wrong, is_whole}
use Rattle.trace.proofs.take.Goals as goal

pub returns-then-reader : goal.returns-then-reader
returns-then-reader c = search passes_over

pub loop-used-init : goal.loop-used-init
loop-used-init c = going _ _ c.requires (held_sized c.args.reader c.well_formed.0) c.if-reader.false

pub bounds-held-size : goal.bounds-held-size
bounds-held-size c = leaves_room c.loop-used.invariant

pub overflow_add-size : goal.overflow_add-size
overflow_add-size c = let l = leaves_room c.loop-used.invariant in omega arith

pub slice_bounds-held-end : goal.slice_bounds-held-end
slice_bounds-held-end c = let g = c.loop-used.invariant in
    let l = leaves_room g in
    let f = next_full g c.loop-used-test.true in
    omega arith

pub slice_bounds-judge-end : goal.slice_bounds-judge-end
slice_bounds-judge-end c = sym (next_size c.loop-used.invariant c.loop-used-test.true)

pub loop-used-preserved : goal.loop-used-preserved
loop-used-preserved c = goes_further c.loop-used.invariant c.loop-used-test.true c.judge-found.ensures c.in-More.is

pub returns-in-Wrong : goal.returns-in-Wrong
returns-in-Wrong c = (is_wrong c.loop-used.invariant c.loop-used-test.true c.judge-found.ensures c.args.reader
    (begins_so c.args.reader c.if-reader.false) c.in-Wrong.is)

pub returns-in-Whole : goal.returns-in-Whole
returns-in-Whole c = (is_whole c.loop-used.invariant c.loop-used-test.true c.judge-found.ensures c.args.reader
    (begins_so c.args.reader c.if-reader.false) _ _ c.in-Whole.is c.plus.ensures)

pub returns : goal.returns
returns c = (all_used c.loop-used.invariant c.args.reader
    (begins_so c.args.reader c.if-reader.false) c.loop-used-test.false)
