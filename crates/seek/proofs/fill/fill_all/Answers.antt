use Rattle.report.proofs.Faults.{accepted_readable}
use Rattle.seek.proofs.Walking.{step_less, step_name, step_home}
use Rattle.seek.proofs.Seeking.{start_fits}
use Rattle.seek.proofs.Filling.{filled_passed, filled_size, fill_start, fill_end, fill_byte, fill_more}
use Rattle.seek.proofs.fill.fill_all.Goals as goal

pub begin-w-requires : goal.begin-w-requires
begin-w-requires c = search accepted_readable

pub loop-a-init : goal.loop-a-init
loop-a-init c = search fill_start

pub advance-requires : goal.advance-requires
advance-requires c = search filled_passed

pub returns-in_default : goal.returns-in_default
returns-in_default c = search fill_end

pub start_of-requires : goal.start_of-requires
start_of-requires c = (search step_home, search step_name)

pub overflow_cast-k : goal.overflow_cast-k
overflow_cast-k c = search fill_byte

pub enter-requires : goal.enter-requires
enter-requires c = (search filled_size, search start_fits)

pub loop-a-smaller : goal.loop-a-smaller
loop-a-smaller c = search step_less

pub loop-a-preserved : goal.loop-a-preserved
loop-a-preserved c = search fill_more
