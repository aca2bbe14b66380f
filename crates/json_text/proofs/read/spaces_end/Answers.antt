use native.Mathlib.Omega.{arith}
use Rattle.json_text.proofs.Spaces.{skip_more, skip_stop}
use Rattle.json_text.proofs.read.spaces_end.Goals as goal

pub loop-i-preserved : goal.loop-i-preserved
loop-i-preserved c = (omega arith, search skip_more)

pub returns : goal.returns
returns c = search skip_stop
