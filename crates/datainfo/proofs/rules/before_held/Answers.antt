-- `datainfo::rules::before_held` meets its contract. Assumes nothing.
use Rattle.datainfo.proofs.Inside.{before_named, before_plain}
use Rattle.datainfo.proofs.rules.before_held.Goals as goal

pub returns-then-k-eq7 : goal.returns-then-k-eq7
returns-then-k-eq7 c = search before_plain

pub returns : goal.returns
returns c = search before_named
