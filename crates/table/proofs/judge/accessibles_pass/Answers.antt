use Rattle.table.proofs.Tests.{accessibles_passed, accessibles_unread, accessibles_pass_on, accessibles_failed}
use Rattle.table.proofs.Modules.{accessibles_less}
use Rattle.ascii.proofs.Bytes.{ended_within}
use Rattle.table.proofs.judge.accessibles_pass.Goals as goal

pub returns-then-not-accessible_passes : goal.returns-then-not-accessible_passes
returns-then-not-accessible_passes c = search accessibles_failed

pub returns-in_default : goal.returns-in_default
returns-in_default c = search accessibles_unread

pub loop-test-smaller : goal.loop-test-smaller
loop-test-smaller c = search accessibles_less

pub loop-test-preserved : goal.loop-test-preserved
loop-test-preserved c = (search ended_within, search accessibles_pass_on)

pub returns : goal.returns
returns c = search accessibles_passed
