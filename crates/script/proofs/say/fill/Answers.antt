use native.Mathlib.Omega.{arith}
use Rattle.script.proofs.Pattern.{begun_none, begun_more, begun_all}
use Rattle.script.proofs.say.fill.Goals as goal

pub loop-i-init : goal.loop-i-init
loop-i-init c = begun_none _

pub loop-i-preserved : goal.loop-i-preserved
loop-i-preserved c = begun_more c.loop-i.invariant (let e = c.loop-i.invariant.size in omega arith)

pub returns : goal.returns
returns c = begun_all c.loop-i.invariant (let e = c.loop-i.invariant.size in omega arith)
