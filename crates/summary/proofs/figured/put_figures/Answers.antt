use Prim.Native.Nat.{◌-◌, ◌≤◌}
use native.Mathlib.Omega.{arith}
use borrow.Author.Rules.{rules}
use Rattle.report.proofs.Faults.{accepted_readable}
use Rattle.summary.proofs.Figuring.{Telling, telling_start, telling_way, telling_length, telling_end, telling_all, telling_placing, telling_on, figures_short}
use Rattle.summary.proofs.figured.put_figures.Goals as goal

pub first_cursor-cursor-requires : goal.first_cursor-cursor-requires
first_cursor-cursor-requires c = search accepted_readable

pub loop-k-init : goal.loop-k-init
loop-k-init c = (omega arith, search telling_start)

pub next_parameter-requires : goal.next_parameter-requires
next_parameter-requires c = search telling_way

pub shape_of-out-in_default : goal.shape_of-out-in_default
shape_of-out-in_default c = search telling_length

pub returns-in_default : goal.returns-in_default
returns-in_default c = let at = c.loop-k in
    let found = c.next_parameter in
    telling_end c.args.table.now c.args.figures c.args.out.now c.loop-k.k c.loop-k.cursor c.loop-k.out c.loop-k.end c.loop-k.invariant.1 c.requires
    c.next_parameter.result c.next_parameter.ensures (search rules) (figures_short _ _ _ c.requires)

pub emit_figure-end-requires : goal.emit_figure-end-requires
emit_figure-end-requires c = search telling_placing

pub loop-k-preserved : goal.loop-k-preserved
loop-k-preserved c = (omega arith, search telling_on)

pub shape_of-out : goal.shape_of-out
shape_of-out c = search telling_length

pub returns : goal.returns
returns c = let at = c.loop-k in
    telling_all c.args.table.now c.args.figures c.args.out.now c.loop-k.k c.loop-k.cursor c.loop-k.out c.loop-k.end c.loop-k.invariant.1 c.requires
    c.loop-k-test.false (figures_short _ _ _ c.requires)
