use native.Mathlib.Nat.{zero-add}
use native.Mathlib.Omega.{arith}
use Rattle.json_text.proofs.Escapes.{count_more, count_end}
use Rattle.json_text.proofs.characters.count.Goals as goal

pub loop-i-init : goal.loop-i-init
loop-i-init c = (omega arith, omega arith, zero-add _)

pub loop-i-preserved : goal.loop-i-preserved
loop-i-preserved c = (omega arith, omega arith, search count_more)

pub returns : goal.returns
returns c = search count_end
