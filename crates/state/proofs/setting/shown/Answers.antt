-- `state::setting::shown` meets its contract. Assumes nothing.
use native.Mathlib.Omega.{arith}
use mathlib.Core.Path.{◌≡◌}
use lib.ListN.{get_or}
use Rattle.state.proofs.Settled.{shows_initial, shows_stored}
use Rattle.state.proofs.setting.shown.Goals as goal

pub returns-then-size-eq0 : goal.returns-then-size-eq0
returns-then-size-eq0 c = search shows_initial

pub returns : goal.returns
returns c =
    let set : get_or c.args.s.length c.args.k 0 ≡ 0 → ⊥ = λ z. omega arith in
    shows_stored c.args.table.now c.args.s c.args.values.now c.args.initial c.args.k set
