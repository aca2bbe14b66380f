-- `access::check` meets its contract. Assumes nothing.
use Rattle.state.specs.Clauses.Bare.{unlined}
use Rattle.access.proofs.Filled.{fill_given, check_filled}
use Rattle.access.proofs.check.Goals as goal

pub fill-size-requires : goal.fill-size-requires
fill-size-requires c = search fill_given

pub returns : goal.returns
returns c = let came = c.check_whole in
    check_filled c.args.table.now (unlined c.args.state) c.args.values.now _ _ _ _ _ _ c.fill-size.ensures
    c.args.client c.args.time c.check_whole.result c.args.out.now c.check_whole.new.out c.args.values.now
    (c.check_whole.ensures (unlined c.args.state) c.args.values.now)
