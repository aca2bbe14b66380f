use native.Mathlib.Omega.{arith}
use mathlib.Core.Path.{refl}
use Rattle.json_text.proofs.Escapes.{all_high, all_more, all_end}
use Rattle.json_text.proofs.characters.all_low.Goals as goal

pub loop-i-init : goal.loop-i-init
loop-i-init c = (omega arith, refl)

pub returns-then-character_at-gt127 : goal.returns-then-character_at-gt127
returns-then-character_at-gt127 c = search all_high

pub loop-i-preserved : goal.loop-i-preserved
loop-i-preserved c = (omega arith, search all_more)

pub returns : goal.returns
returns c = search all_end
