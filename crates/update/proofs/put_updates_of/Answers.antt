use borrow.Author.Rules.{rules}
use Rattle.report.proofs.Faults.{accepted_readable}
use Rattle.state.specs.View.{view}
use Rattle.state.specs.Clauses.Bare.{unlined}
use Rattle.update.proofs.Showings.{sent_start, sent_way, sent_length, sent_all, sent_end, sent_on, next_shows}
use Rattle.update.proofs.put_updates_of.Goals as goal

pub first_cursor-cursor-requires : goal.first_cursor-cursor-requires
first_cursor-cursor-requires c = search accepted_readable

pub loop-k-init : goal.loop-k-init
loop-k-init c = search sent_start

pub next_parameter-requires : goal.next_parameter-requires
next_parameter-requires c = search sent_way

pub shape_of-out-in_default : goal.shape_of-out-in_default
shape_of-out-in_default c = search sent_length

pub returns-in_default : goal.returns-in_default
unfolding view
returns-in_default c = let at = c.loop-k in
    sent_end c.args.table.now c.args.state.settings c.args.values.now c.args.client c.args.scope c.args.out.now at.k at.cursor at.out at.end at.invariant
    c.next_parameter.result c.next_parameter.ensures (search rules)

pub put_shown-end-requires : goal.put_shown-end-requires
put_shown-end-requires c = let given = next_shows c.args.table.now (unlined c.args.state) c.args.values.now c.args.client c.args.scope c.args.out.now c.requires in
    search given

pub loop-k-preserved : goal.loop-k-preserved
loop-k-preserved c = let at = c.loop-k in
    let on = sent_on c.args.table.now c.args.state.settings c.args.values.now c.args.client c.args.scope c.args.out.now at.k at.cursor at.out at.end at.invariant
    c.next_parameter.result c.next_parameter.ensures in
    on c.in-Some.p c.in-Some.next (search rules) c.requires.lent.accepted _ _ c.put_shown-end.ensures

pub shape_of-out : goal.shape_of-out
shape_of-out c = search sent_length

pub returns : goal.returns
unfolding view
returns c = let at = c.loop-k in
    sent_all c.args.table.now c.args.state.settings c.args.values.now c.args.client c.args.scope c.args.out.now at.k at.cursor at.out at.end at.invariant
    c.requires.lent.accepted c.loop-k-test.false
