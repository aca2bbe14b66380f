-- `state::client::clients_unfit` meets its contract. The loop's invariant: of the first c clients none is unfit. Assumes nothing.
use mathlib.Core.Path.{◌≡◌}
use lib.ListN.{drop}
use Rattle.ascii.specs.Bytes.{any}
use Rattle.plain.specs.Node.{client_numbers}
use Rattle.state.specs.Fit.{client_unfit}
use Rattle.state.specs.Clauses.Bare.{with_lines}
use Rattle.state.proofs.client.clients_unfit.Given as goal

abbrev pub invariant-loop-c : goal.invariant-loop-c
invariant-loop-c l = any (client_unfit l.modules (with_lines l.s l.lines)) client_numbers ≡ any (client_unfit l.modules (with_lines l.s l.lines)) (drop l.c client_numbers)
