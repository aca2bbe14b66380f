-- `datainfo::rules::names_good` meets its contract. Assumes nothing.
use Rattle.datainfo.proofs.Inside.{said_names}
use Rattle.datainfo.proofs.rules.names_good.Goals as goal

pub returns : goal.returns
returns c = search said_names
