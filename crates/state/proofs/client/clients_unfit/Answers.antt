use Rattle.state.proofs.Judged.{unfit_at, any_found, any_more, any_none}
use native.Mathlib.Omega.{arith}
use Rattle.plain.specs.Node.{client_numbers}
use Rattle.state.specs.Fit.{client_unfit}
use Rattle.state.specs.Clauses.Bare.{with_lines}
use Rattle.state.proofs.client.clients_unfit.Goals as goal

pub returns-then-client_unfit : goal.returns-then-client_unfit
returns-then-client_unfit c = let args = c.args in
    let below = c.loop-c-test.true in
    let own = unfit_at args.modules (with_lines args.s args.lines.now) c.loop-c.c below c.client_unfit.result c.client_unfit.ensures c.if-client_unfit.true in
    any_found (client_unfit args.modules (with_lines args.s args.lines.now)) client_numbers c.loop-c.c c.loop-c.invariant below own

pub loop-c-preserved : goal.loop-c-preserved
loop-c-preserved c = let args = c.args in
    any_more (client_unfit args.modules (with_lines args.s args.lines.now)) client_numbers c.loop-c.c c.loop-c.invariant c.loop-c-test.true
    (unfit_at args.modules (with_lines args.s args.lines.now) c.loop-c.c c.loop-c-test.true c.client_unfit.result c.client_unfit.ensures c.if-client_unfit.false)

pub returns : goal.returns
returns c = let args = c.args in
    any_none (client_unfit args.modules (with_lines args.s args.lines.now)) client_numbers c.loop-c.c c.loop-c.invariant (omega arith)
