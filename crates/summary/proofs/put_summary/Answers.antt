-- `summary::put_summary` meets its contract: there is room for all, since a parameter's line has at most 385 bytes. Assumes nothing.
use native.Mathlib.Omega.{arith}
use Rattle.ascii.proofs.Puts.{puts_length, puts_both}
use Rattle.state.specs.View.{view}
use Rattle.summary.specs.Summary.{summary}
use Rattle.summary.proofs.Shown.{every_short}
use borrow.Author.Rules.{rules}
use Rattle.summary.proofs.put_summary.Goals as goal

pub put_refusals-second-requires : goal.put_refusals-second-requires
unfolding view
put_refusals-second-requires c = let told = c.requires in
    let l = every_short c.args.table.now c.args.replay.state c.args.values.now c.args.out.now told in
    let w = c.put_values-first.ensures.ends in
    omega (arith, c.requires.room, puts_length c.put_values-first.ensures)

pub put_end-requires : goal.put_end-requires
unfolding view
put_end-requires c = let told = c.requires in
    let l = every_short c.args.table.now c.args.replay.state c.args.values.now c.args.out.now told in
    let w = c.put_values-first.ensures.ends in
    let r = c.put_refusals-second.ensures.1 in
    omega (arith, c.requires.room, puts_length c.put_values-first.ensures, puts_length c.put_refusals-second.ensures.0)

pub returns : goal.returns
unfolding summary view
returns c = let l = every_short c.args.table.now c.args.replay.state c.args.values.now c.args.out.now c.requires in (
  puts_both (puts_both c.put_values-first.ensures c.put_refusals-second.ensures.0) c.put_end.ensures.0,
  omega (arith, c.put_values-first.ensures.ends, c.put_refusals-second.ensures.1, c.put_end.ensures.1),
)
