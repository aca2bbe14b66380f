-- `datainfo::layout::flag_end` meets its contract. Assumes nothing.
use Rattle.datainfo.proofs.Ends.{flag_absent, flag_cut, flag_other, flag_read}
use Rattle.datainfo.proofs.layout.flag_end.Goals as goal

pub returns-then-k-ne11 : goal.returns-then-k-ne11
returns-then-k-ne11 c = search flag_absent

pub returns-then-s-at : goal.returns-then-s-at
returns-then-s-at c = search flag_cut

pub returns-then-s-at-gt1 : goal.returns-then-s-at-gt1
returns-then-s-at-gt1 c = search flag_other

pub returns : goal.returns
returns c = search flag_read
