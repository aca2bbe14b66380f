-- `access::whole::check_whole` meets its contract. Assumes nothing.
use Rattle.access.proofs.Finding.{info_known, parameter_known}
use Rattle.access.proofs.Checked.{check_denied, check_told, check_sent}
use Rattle.access.proofs.whole.check_whole.Goals as goal

pub judge_change-requires : goal.judge_change-requires
judge_change-requires c = info_known (parameter_known _ c.requires.0.accepted _ _ _ _ _ c.requires.1.1)

pub put_checked-requires : goal.put_checked-requires
put_checked-requires c = check_told _ _ _ _ c.requires.0 _ _ _ _ _ _ c.requires.1.1 _
    c.judge_change.ensures c.in_default.is c.requires.1.0

pub returns-in-Err : goal.returns-in-Err
returns-in-Err c = check_denied _ _ _ _ c.requires.0 _ _ _ _ _ _ c.requires.1.1 _ c.judge_change.ensures _ c.in-Err.is

pub returns : goal.returns
returns c = check_sent _ _ _ _ c.requires.0 _ _ _ _ _ _ c.requires.1.1 _
    c.judge_change.ensures c.in_default.is
    _ _ c.put_checked.ensures
