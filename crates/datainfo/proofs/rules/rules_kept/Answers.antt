-- `datainfo::rules::rules_kept` meets its contract. Assumes nothing.
use Rattle.datainfo.proofs.Inside.{said_rules}
use Rattle.datainfo.proofs.rules.rules_kept.Goals as goal

pub returns : goal.returns
returns c = search said_rules
