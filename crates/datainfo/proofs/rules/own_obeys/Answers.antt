-- `datainfo::rules::own_obeys` meets its contract. Assumes nothing.
use Rattle.datainfo.proofs.Own.{own_asked}
use Rattle.datainfo.proofs.rules.own_obeys.Goals as goal

pub returns-then-names : goal.returns-then-names
returns-then-names c = search own_asked

pub returns : goal.returns
returns c = search own_asked
