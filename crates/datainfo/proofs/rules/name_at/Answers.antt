-- `datainfo::rules::name_at` meets its contract. Assumes nothing.
use Rattle.datainfo.proofs.Keys.{name_none, name_cut, name_whole}
use Rattle.datainfo.proofs.rules.name_at.Goals as goal

pub returns-then-s-at : goal.returns-then-s-at
returns-then-s-at c = search name_none

pub returns-then-s-from : goal.returns-then-s-from
returns-then-s-from c = search name_cut

pub returns : goal.returns
returns c = search name_whole
