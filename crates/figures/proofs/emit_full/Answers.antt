-- `figures::emit_full` meets its contract. Assumes nothing.
use native.Mathlib.Omega.{arith}
use Rattle.figures.proofs.Telling.{full_no, full_yes}
use Rattle.ascii.specs.Text.{bytes}
use Rattle.figures.proofs.emit_full.Goals as goal

pub returns-then-count-lt-FULL : goal.returns-then-count-lt-FULL
returns-then-count-lt-FULL c = full_no _ _ (omega arith) _ c.if-count-lt-FULL.true

pub returns : goal.returns
unfolding bytes
returns c = search full_yes
