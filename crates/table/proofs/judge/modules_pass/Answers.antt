use Rattle.table.proofs.Tests.{modules_passed, modules_unread, modules_pass_on, modules_failed}
use Rattle.table.proofs.Modules.{modules_less}
use Rattle.ascii.proofs.Bytes.{ended_within}
use Rattle.table.proofs.judge.modules_pass.Goals as goal

pub returns-then-not-module_passes : goal.returns-then-not-module_passes
returns-then-not-module_passes c = search modules_failed

pub returns-in_default : goal.returns-in_default
returns-in_default c = search modules_unread

pub loop-test-smaller : goal.loop-test-smaller
loop-test-smaller c = search modules_less

pub loop-test-preserved : goal.loop-test-preserved
loop-test-preserved c = (search ended_within, search modules_pass_on)

pub returns : goal.returns
returns c = search modules_passed
