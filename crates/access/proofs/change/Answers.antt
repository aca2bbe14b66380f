-- `access::change` meets its contract. Assumes nothing.
use Rattle.state.specs.Clauses.Bare.{unlined}
use Rattle.access.proofs.Filled.{fill_given, change_filled}
use Rattle.access.proofs.change.Goals as goal

pub fill-size-requires : goal.fill-size-requires
fill-size-requires c = search fill_given

pub returns : goal.returns
returns c = let came = c.change_whole in
    change_filled c.args.table.now (unlined c.args.state) c.args.values.now _ _ _ _ _ _ c.fill-size.ensures
    c.args.client c.args.time c.change_whole.result c.args.out.now c.change_whole.new.out c.change_whole.new.values c.change_whole.ensures
