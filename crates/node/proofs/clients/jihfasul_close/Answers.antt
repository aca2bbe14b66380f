-- `node::clients::jihfasul_close` meets its contract. Assumes nothing.
use Prim.Native.Nat.{◌<◌}
use native.Mathlib.Omega.{arith}
use Rattle.state.proofs.Becomes.{clients_sized}
use Rattle.node.proofs.Opens.{close_lent, close_high, close_closed, close_good}
use Rattle.node.proofs.clients.jihfasul_close.Goals as goal

pub returns-then-number-ne0 : goal.returns-then-number-ne0
returns-then-number-ne0 c = search close_lent

pub returns-then-client-gt-LAST_CLIENT : goal.returns-then-client-gt-LAST_CLIENT
returns-then-client-gt-LAST_CLIENT c = let high : 7 < c.args.client = omega arith in
    search close_high

pub returns-then-not-is_open : goal.returns-then-not-is_open
returns-then-not-is_open c = search close_closed

pub returns : goal.returns
returns c = let z = clients_sized c.args.state.clients c.well_formed.1.1.0.1.1.0 in
    search (close_good, z)
