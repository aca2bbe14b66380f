-- `update::put_updates_to` meets its contract. The loop's invariant: the updates to the clients below c are written. Assumes nothing.
use mathlib.Core.List.{[]}
use lib.ListN.{drop}
use Rattle.message.specs.Clauses.Said.{held_by, report_of}
use Rattle.plain.specs.Node.{client_numbers, updates_to}
use Rattle.state.specs.View.{client_at}
use Rattle.state.specs.Clauses.Bare.{with_lines}
use Rattle.update.proofs.Sendings.{Going}
use Rattle.update.proofs.put_updates_to.Given as goal

abbrev pub invariant-loop-c : goal.invariant-loop-c
invariant-loop-c l = let s = client_at (with_lines l.clients []) in
    let r = report_of l.module l.accessible (held_by l.sensor l.value) l.time in
    Going l.initial.out l.at (updates_to s l.home r client_numbers) (updates_to s l.home r (drop l.c client_numbers)) l.out l.end
