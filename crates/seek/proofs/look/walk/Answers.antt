use Rattle.report.proofs.Faults.{accepted_readable}
use Rattle.seek.proofs.Walking.{step_less, step_name, step_home}
use Rattle.seek.proofs.Seeking.{vain_start, vain_passed, walk_end, walk_found, walk_more}
use Rattle.seek.proofs.look.walk.Goals as goal

pub begin-w-requires : goal.begin-w-requires
begin-w-requires c = search accepted_readable

pub loop-a-init : goal.loop-a-init
loop-a-init c = search vain_start

pub advance-requires : goal.advance-requires
advance-requires c = search vain_passed

pub returns : goal.returns
returns c = search walk_end

pub are_named-requires : goal.are_named-requires
are_named-requires c = (search step_home, search step_name)

pub returns-then-are_named : goal.returns-then-are_named
returns-then-are_named c = search walk_found

pub loop-a-smaller : goal.loop-a-smaller
loop-a-smaller c = search step_less

pub loop-a-preserved : goal.loop-a-preserved
loop-a-preserved c = search walk_more
