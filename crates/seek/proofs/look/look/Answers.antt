use native.Mathlib.Omega.{arith}
use Rattle.index.proofs.Loops.{looking_start}
use Rattle.seek.proofs.Seeking.{look_free, look_found, look_more, look_end}
use Rattle.seek.proofs.look.look.Goals as goal

pub loop-n-init : goal.loop-n-init
loop-n-init c = search looking_start

pub returns-then-b : goal.returns-then-b
returns-then-b c = search look_free

pub returns-in-Some : goal.returns-in-Some
returns-in-Some c = search look_found

pub loop-n-preserved : goal.loop-n-preserved
loop-n-preserved c = search look_more

pub returns : goal.returns
returns c = search (arith, look_end)
