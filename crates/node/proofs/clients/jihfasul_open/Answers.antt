-- `node::clients::jihfasul_open` meets its contract. Assumes nothing.
use Prim.Native.Nat.{◌≤◌, ◌<◌}
use native.Mathlib.Omega.{arith}
use Rattle.state.proofs.Becomes.{clients_sized}
use Rattle.node.proofs.Opens.{open_lent, open_high, open_twice, open_good}
use Rattle.node.proofs.clients.jihfasul_open.Goals as goal

pub returns-then-number-ne0 : goal.returns-then-number-ne0
returns-then-number-ne0 c = search open_lent

pub returns-then-client-gt-LAST_CLIENT : goal.returns-then-client-gt-LAST_CLIENT
returns-then-client-gt-LAST_CLIENT c = let high : 7 < c.args.client = omega arith in
    search open_high

pub returns-then-is_open : goal.returns-then-is_open
returns-then-is_open c = search open_twice

pub returns : goal.returns
returns c = let z = clients_sized c.args.state.clients c.well_formed.1.1.0.1.1.0 in
    let low : c.args.client ≤ 7 = omega arith in
    open_good _ c.args.state _ _ _ c.args.time c.lent_number-number.ensures c.if-number-ne0.false low c.is_open.ensures
    c.if-is_open.false z c.opened.ensures c.cleared.ensures c.quiet-2.ensures
